use Rattle.std.proofs.Common.{◌∙◌, ap, arith, sym}
use Rattle.qasm_lexer.specs.Numbers.{begins_with}
use Rattle.qasm_lexer.proofs.PlainLaws.{nought-plain, whole-plain}
use Rattle.qasm_lexer.proofs.ValueLaws.{laws}
use Rattle.qasm_lexer.proofs.plain.short_whole.Goals as goal

pub returns-then-first-eq48 : goal.returns-then-first-eq48
returns-then-first-eq48 c =
    nought-plain (laws c.lowest_terms.ensures.reduced c.lowest_terms.ensures.same) c.args.first c.digits_len-more.result c.args.rest.now
    c.digits_len-more.ensures.value (ap (λ z. begins_with 46 z) (sym c.after.ensures.value) ∙ sym c.begins_with.ensures.value ∙ c.if-begins_with.false) c.if-first-eq48.true

pub returns-else-first-eq48 : goal.returns-else-first-eq48
returns-else-first-eq48 c =
    whole-plain (laws c.lowest_terms.ensures.reduced c.lowest_terms.ensures.same) c.args.first c.digits_len-more.result c.args.rest.now
    c.requires.digit c.digits_len-more.ensures.value c.digits_len-more.ensures.bound (omega arith) (ap (λ z. begins_with 46 z) (sym c.after.ensures.value) ∙ sym c.begins_with.ensures.value ∙ c.if-begins_with.false) c.if-first-eq48.false
