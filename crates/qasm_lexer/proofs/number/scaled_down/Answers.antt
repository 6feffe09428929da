use Rattle.std.proofs.Common.{◌++◌, ◌+◌, ◌^◌, ap, ◌∙◌, arith, length, pos}
use Rattle.angle_fraction.specs.Fraction.{fraction}
use Rattle.angle_fraction.specs.Angles.{fitted}
use Rattle.qasm_lexer.specs.Numbers.{number}
use Rattle.qasm_lexer.proofs.ScaledLaws.{all_digits, digits_short}
use Rattle.qasm_lexer.proofs.TailLaws.{far_down}
use Rattle.qasm_lexer.proofs.ValueLaws.{laws}
use Rattle.qasm_lexer.proofs.number.scaled_down.Goals as goal

pub returns-then-places-digits : goal.returns-then-places-digits
returns-then-places-digits c =
    far_down (laws c.lowest_terms.ensures.reduced c.lowest_terms.ensures.same) (number (c.args.whole.now ++ c.args.part.now)) (length c.args.whole.now + length c.args.part.now) (length c.args.part.now + c.args.size)
    c.requires.some (digits_short c.args.whole.now c.args.part.now) (omega arith)

pub returns : goal.returns
returns c =
    c.placed.ensures ∙ ap (λ n. fitted (fraction (pos n) (10 ^ (length c.args.part.now + c.args.size)))) (all_digits c.args.whole.now c.args.part.now)
