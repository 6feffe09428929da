use Rattle.circuit_list.proofs.GateLaws.{IsPlain-ops}
use Rattle.circuit_list.proofs.laws.fine_plain.Goals as goal

pub returns : goal.returns
returns c = record { plain = IsPlain-ops }
