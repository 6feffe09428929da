use Rattle.qasm_lexer.proofs.NameLaws.{name_ascii}
use Rattle.qasm_lexer.proofs.laws.names_are_ascii.Goals as goal

pub returns : goal.returns
returns c = record { ascii = name_ascii }
