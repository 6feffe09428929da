use Rattle.qasm_check.proofs.OnceLaws.{accepted_fine}
use Rattle.qasm_check.proofs.laws.accepted_has_no_fault.Goals as goal

pub returns : goal.returns
returns c = record { no_fault = accepted_fine }
