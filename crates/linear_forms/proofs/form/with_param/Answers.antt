-- A parameter more.
use Rattle.std.proofs.Common.{◌∙◌, ◌<◌, ◌+ℤ◌, ◌*ℤ◌, pos, ap, refl, arith, rules, length, set, FitsSigned}
use Rattle.std.specs.Int.{w64}
use Rattle.std.proofs.lemmas.Int.{to_z-of_z}
use Rattle.linear_forms.proofs.AtLaws.{factor_is}
use Rattle.linear_forms.proofs.LinearLaws.{gathered_param}
use Rattle.linear_forms.proofs.form.with_param.Goals as goal

pub returns : goal.returns
returns c =
    let s_fits : FitsSigned w64 c.args.sign = c.ranges.sign in
    let a_fits : FitsSigned w64 c.args.sums.plain = search rules in
    let b_fits : FitsSigned w64 c.args.sums.pis = search rules in
    let n_fits : FitsSigned w64 c.in_ok-part.part = search rules in
    let o_fits : FitsSigned w64 c.index.result.now = search rules in
    let v_fits : FitsSigned w64 c.in_ok-factor.factor = search rules in
    let sum = simp to_z-of_z at c.in_ok-factor.ensures in
    let times = c.in_ok-times.ensures in
    let there : c.args.place < length c.args.sums.factors.items = omega arith in
    gathered_param c.args.place c.args.step c.args.sign c.in_ok-part.part c.in_ok-factor.factor c.args.sums _ c.in_ok-part.ensures there
    (to_z-of_z w64 c.args.sums.plain a_fits) (to_z-of_z w64 c.args.sums.pis b_fits)
    (ap (set c.args.sums.factors.items c.args.place) (to_z-of_z w64 c.in_ok-factor.factor v_fits))
    (sum ∙ ap (λ z. z +ℤ c.args.sign *ℤ c.in_ok-part.part) (c.index.ensures ∙ factor_is c.args.sums.factors.items c.args.place _ (pos 0) there))
    refl (omega (arith, times)) (omega (arith, c.max.ensures)) (omega (arith, c.max.ensures))
