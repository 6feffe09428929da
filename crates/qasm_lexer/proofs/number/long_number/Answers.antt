use Rattle.std.proofs.Common.{◌<◌, ◌+◌, ◌^◌, ap, ◌∙◌, arith, length, min, drop}
use Rattle.qasm_lexer.specs.Numbers.{front_digits, number}
use Rattle.qasm_lexer.specs.Forms.{Bytes}
use Rattle.qasm_lexer.specs.Numbers.{begins_with, exponent_sign_len}
use Rattle.qasm_lexer.proofs.ScaledLaws.{decimal_by}
use Rattle.qasm_lexer.proofs.ValueLaws.{laws}
use Rattle.qasm_lexer.proofs.number.long_number.Goals as goal

pub returns : goal.returns
returns c =
    let whole = ap length c.front_digits-2.ensures.value in
    let short : length c.front_digits-2.result.now + length c.front_digits-part.result.now < 2 ^ 32 = omega arith in
    let part = c.front_digits-part.ensures.value ∙ ap (λ (t : Bytes). front_digits t) c.behind_point.ensures.value in
    let down = c.begins_with.ensures.value ∙ ap (λ (t : Bytes). begins_with 45 t) c.exponent-power.ensures in
    let digits = c.front_digits.ensures.value ∙ ap (λ (t : Bytes). front_digits t) (c.after.ensures.value ∙ ap (λ n. drop n c.exponent-power.result.now) c.exponent_sign_len.ensures.value)
    ∙ ap (λ (t : Bytes). front_digits (drop (exponent_sign_len t) t)) c.exponent-power.ensures in
    let size = c.exponent_size-size.ensures ∙ ap (λ (t : Bytes). min (number t) (2 ^ 40)) digits in
    c.scaled.ensures ∙ decimal_by (laws c.lowest_terms.ensures.reduced c.lowest_terms.ensures.same) c.args.text.now c.front_digits-2.result.now c.front_digits-part.result.now c.begins_with.result c.exponent_size-size.result
    c.front_digits-2.ensures.value part down size short
