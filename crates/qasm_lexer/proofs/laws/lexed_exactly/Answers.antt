use Rattle.qasm_lexer.proofs.LexingLaws.{tokens-lexed, lexed-tokens, fault-lexed, lexed-fault}
use Rattle.qasm_lexer.proofs.laws.lexed_exactly.Goals as goal

pub returns-clause-tokens : goal.returns-clause-tokens
returns-clause-tokens c = tokens-lexed

pub returns-clause-has_tokens : goal.returns-clause-has_tokens
returns-clause-has_tokens c = lexed-tokens

pub returns-clause-fault : goal.returns-clause-fault
returns-clause-fault c = fault-lexed

pub returns-clause-has_fault : goal.returns-clause-has_fault
returns-clause-has_fault c = lexed-fault
