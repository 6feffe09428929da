use Rattle.qasm_lexer.proofs.LexingLaws.{no_fault}
use Rattle.qasm_lexer.proofs.laws.accepted_has_no_fault.Goals as goal

pub returns : goal.returns
returns c = record { no_fault = no_fault }
