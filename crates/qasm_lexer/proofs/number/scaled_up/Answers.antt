use Rattle.std.proofs.Common.{◌++◌, ◌-◌, ◌^◌, ap, ◌∙◌, arith, length, pos}
use Rattle.angle_fraction.specs.Fraction.{fraction}
use Rattle.angle_fraction.specs.Angles.{fitted}
use Rattle.qasm_lexer.specs.Numbers.{number}
use Rattle.qasm_lexer.proofs.ScaledLaws.{all_digits, with_zeros}
use Rattle.qasm_lexer.proofs.TailLaws.{far_up, less_zeros, more_zeros}
use Rattle.qasm_lexer.proofs.ValueLaws.{laws}
use Rattle.qasm_lexer.proofs.number.scaled_up.Goals as goal

pub returns-then-size-part : goal.returns-then-size-part
returns-then-size-part c =
    c.placed.ensures ∙ ap (λ n. fitted (fraction (pos n) (10 ^ (length c.args.part.now - c.args.size)))) (all_digits c.args.whole.now c.args.part.now)
    ∙ less_zeros (laws c.lowest_terms.ensures.reduced c.lowest_terms.ensures.same) (number (c.args.whole.now ++ c.args.part.now)) c.args.size (length c.args.part.now) (omega arith)

pub returns-then-zeros-gt19 : goal.returns-then-zeros-gt19
returns-then-zeros-gt19 c =
    far_up (laws c.lowest_terms.ensures.reduced c.lowest_terms.ensures.same) (number (c.args.whole.now ++ c.args.part.now)) c.args.size (length c.args.part.now) c.requires.some (omega arith)

pub returns : goal.returns
returns c =
    c.placed-2.ensures
    ∙ ap (λ n. fitted (fraction (pos n) 1)) (with_zeros c.args.whole.now c.args.part.now (c.args.size - length c.args.part.now))
    ∙ more_zeros (laws c.lowest_terms.ensures.reduced c.lowest_terms.ensures.same) (number (c.args.whole.now ++ c.args.part.now)) c.args.size (length c.args.part.now) (omega arith)
