use Rattle.qasm_lexer.proofs.LexingLaws.{tokens_once}
use Rattle.qasm_lexer.proofs.laws.lexed_once.Goals as goal

pub returns : goal.returns
returns c = record { once = tokens_once }
