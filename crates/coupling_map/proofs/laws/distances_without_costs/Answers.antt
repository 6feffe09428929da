use Rattle.coupling_map.proofs.ConnectedLaws.{device-few, device-one}
use Rattle.coupling_map.proofs.laws.distances_without_costs.Goals as goal

pub returns : goal.returns
returns c = record { short = device-few; one = device-one }
