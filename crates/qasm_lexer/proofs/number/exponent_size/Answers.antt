use Rattle.std.proofs.Common.{◌≡◌, refl, arith, ap, ◌∙◌, sym, min, length}
use Rattle.qasm_lexer.specs.Numbers.{front_number}
use Rattle.qasm_lexer.proofs.DigitLaws.{front_number-next, number-front}
use Rattle.qasm_lexer.proofs.number.exponent_size.Goals as goal

pub loop-byte-init : goal.loop-byte-init
unfolding front_number
loop-byte-init c = refl

pub loop-byte-preserved : goal.loop-byte-preserved
loop-byte-preserved c =
    let next = front_number-next c.args.digits.now c.loop-byte.byte-index in
    omega arith

pub returns : goal.returns
returns c =
    let last : c.loop-byte.byte-index ≡ length c.args.digits.now = omega arith in
    c.loop-byte.invariant ∙ ap (λ n. min n 1099511627776) (ap (λ i. front_number c.args.digits.now i) last ∙ sym (number-front c.args.digits.now))
