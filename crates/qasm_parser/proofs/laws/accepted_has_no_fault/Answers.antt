use Rattle.qasm_parser.proofs.OnceLaws.{no_fault}
use Rattle.qasm_parser.proofs.laws.accepted_has_no_fault.Goals as goal

pub returns : goal.returns
returns c = record { no_fault = no_fault }
