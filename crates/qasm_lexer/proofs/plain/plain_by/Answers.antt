use Rattle.std.proofs.Common.{◌∙◌, sym}
use Rattle.qasm_lexer.proofs.PlainLaws.{sign-plain, word-plain}
use Rattle.qasm_lexer.proofs.plain.plain_by.Goals as goal

pub returns-then-is_sign : goal.returns-then-is_sign
returns-then-is_sign c = sign-plain c.args.first c.args.rest.now (sym c.is_sign.ensures.value ∙ c.if-is_sign.true)

pub returns-then-is_ascii_lowercase : goal.returns-then-is_ascii_lowercase
returns-then-is_ascii_lowercase c =
    word-plain c.args.first c.word_bytes_len.result c.args.rest.now (sym c.is_ascii_lowercase.ensures.value ∙ c.if-is_ascii_lowercase.true)
    c.word_bytes_len.ensures.value c.word_bytes_len.ensures.bound
