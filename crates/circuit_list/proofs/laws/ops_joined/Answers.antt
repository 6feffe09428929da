use Rattle.circuit_list.proofs.GateLaws.{ops-joined}
use Rattle.circuit_list.proofs.laws.ops_joined.Goals as goal

pub returns : goal.returns
returns c = record { joined = ops-joined }
