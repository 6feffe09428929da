-- A pi more.
use Rattle.std.proofs.Common.{◌∙◌, refl, arith, rules, FitsSigned}
use Rattle.std.specs.Int.{w64}
use Rattle.std.proofs.lemmas.Int.{to_z-of_z}
use Rattle.linear_forms.proofs.LinearLaws.{gathered_pi}
use Rattle.linear_forms.proofs.form.with_pi.Goals as goal

pub returns : goal.returns
returns c =
    let s_fits : FitsSigned w64 c.args.sign = c.ranges.sign in
    let a_fits : FitsSigned w64 c.args.sums.plain = search rules in
    let b_fits : FitsSigned w64 c.args.sums.pis = search rules in
    let n_fits : FitsSigned w64 c.in_ok-part.part = search rules in
    let v_fits : FitsSigned w64 c.in_ok-pis.pis = search rules in
    let sum = simp to_z-of_z at c.in_ok-pis.ensures in
    let fixed = c.in_ok-fixed.ensures in
    gathered_pi c.args.step c.args.sign c.in_ok-part.part c.args.sums _ c.in_ok-part.ensures
    (to_z-of_z w64 c.args.sums.plain a_fits) (to_z-of_z w64 c.in_ok-pis.pis v_fits ∙ sum) refl
    (omega (arith, fixed)) refl (omega (arith, c.max.ensures)) (omega (arith, c.max.ensures))
