use Rattle.qasm_lexer.proofs.LexingLaws.{each_token, few_tokens}
use Rattle.qasm_lexer.proofs.laws.tokens_are_lexemes.Goals as goal

pub returns-clause-each : goal.returns-clause-each
returns-clause-each c = each_token

pub returns-clause-tokens_limit : goal.returns-clause-tokens_limit
returns-clause-tokens_limit c = few_tokens
