use Rattle.qasm_lexer.proofs.LexingLaws.{refused_once}
use Rattle.qasm_lexer.proofs.laws.refused_once.Goals as goal

pub returns : goal.returns
returns c = record { once = refused_once }
