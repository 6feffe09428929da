use Rattle.qasm_lexer.proofs.TokenLaws.{lexed_from-lexeme, lexed_from-nil}
use Rattle.qasm_lexer.proofs.laws.lexed_by_lexemes.Goals as goal

pub returns-clause-step : goal.returns-clause-step
returns-clause-step c = lexed_from-lexeme

pub returns-clause-none : goal.returns-clause-none
returns-clause-none c = lexed_from-nil
