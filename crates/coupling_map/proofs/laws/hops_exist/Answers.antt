use Rattle.coupling_map.proofs.ConnectedLaws.{device-hops}
use Rattle.coupling_map.proofs.laws.hops_exist.Goals as goal

pub returns : goal.returns
returns c = record { exist = device-hops }
