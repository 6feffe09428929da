use Rattle.qasm_lexer.proofs.LexingLaws.{lexed_or_refused}
use Rattle.qasm_lexer.proofs.laws.lexed_or_refused.Goals as goal

pub returns : goal.returns
returns c = record { either = lexed_or_refused }
