use Rattle.std.proofs.Common.{inl}
use Rattle.qasm_lexer.proofs.LexingLaws.{number_token}
use Rattle.reader_tests.proofs.lexer_tests.value_of_token.Goals as goal

pub value-requires-clause-number : goal.value-requires-clause-number
value-requires-clause-number c = number_token c.args.text.now c.args.token.now c.requires.token (inl c.in-Whole.is)
