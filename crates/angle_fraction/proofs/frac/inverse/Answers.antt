use Rattle.std.proofs.Common.{◌∙◌, ap, refl, neg_ℤ, arith, FitsSigned, rules}
use Rattle.std.specs.Int.{w128}
use Rattle.std.proofs.lemmas.Int.{ints, to_z-of_z}
use Rattle.angle_fraction.proofs.LowestLaws.{over, over_less}
use Rattle.angle_fraction.proofs.frac.inverse.Goals as goal

pub keep-requires : goal.keep-requires
keep-requires c =
    let n_fits : FitsSigned w128 c.num-num.result = search rules in
    let d_fits : FitsSigned w128 c.den-den.result = search rules in
    let n_less : FitsSigned w128 c.negated.result = search rules in
    let d_less : FitsSigned w128 c.negated-then-num-lt0.result = search rules in
    let num = simp to_z-of_z at c.negated.ensures in
    let den = simp to_z-of_z at c.negated-then-num-lt0.ensures in
    simp to_z-of_z (over_less c.args.a.now c.num-num.result c.negated.result c.negated-then-num-lt0.result c.den-den.ensures.lowest
    c.num-num.ensures.value c.num-num.ensures.size c.den-den.ensures.size (omega (arith, ints)) (num ∙ ap neg_ℤ c.den-den.ensures.value) den)

pub keep-requires-else-num-lt0 : goal.keep-requires-else-num-lt0
keep-requires-else-num-lt0 c =
    let n_fits : FitsSigned w128 c.num-num.result = search rules in
    let d_fits : FitsSigned w128 c.den-den.result = search rules in
    simp to_z-of_z (over c.args.a.now c.num-num.result c.den-den.result c.num-num.result c.den-den.ensures.lowest
    c.num-num.ensures.value c.num-num.ensures.size c.den-den.ensures.size c.requires.nonzero (omega (arith, ints)) c.den-den.ensures.value refl)
