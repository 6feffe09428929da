use Rattle.circuit_list.proofs.GateLaws.{WiresBelow-ops}
use Rattle.circuit_list.proofs.laws.fine_below.Goals as goal

pub returns : goal.returns
returns c = record { below = WiresBelow-ops }
