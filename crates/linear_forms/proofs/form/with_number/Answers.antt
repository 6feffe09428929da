-- A number more.
use Rattle.std.proofs.Common.{◌∙◌, refl, arith, rules, FitsSigned}
use Rattle.std.specs.Int.{w64}
use Rattle.std.proofs.lemmas.Int.{to_z-of_z}
use Rattle.linear_forms.proofs.LinearLaws.{gathered_number}
use Rattle.linear_forms.proofs.form.with_number.Goals as goal

pub returns : goal.returns
returns c =
    let s_fits : FitsSigned w64 c.args.sign = c.ranges.sign in
    let a_fits : FitsSigned w64 c.args.sums.plain = search rules in
    let b_fits : FitsSigned w64 c.args.sums.pis = search rules in
    let n_fits : FitsSigned w64 c.in_ok-part.part = search rules in
    let v_fits : FitsSigned w64 c.in_ok-plain.plain = search rules in
    let sum = simp to_z-of_z at c.in_ok-plain.ensures in
    let size = simp to_z-of_z at c.unsigned_abs.ensures.value in
    let fixed = c.in_ok-fixed.ensures in
    gathered_number c.args.number.now c.args.step c.args.sign c.in_ok-part.part c.args.sums _ c.den.ensures.lowest c.in_ok-part.ensures
    (to_z-of_z w64 c.in_ok-plain.plain v_fits ∙ sum) (to_z-of_z w64 c.args.sums.pis b_fits) refl
    (omega (arith, fixed, size)) refl (omega (arith, c.max.ensures)) (omega (arith, c.max.ensures))
