-- The totals of the first parameters, one by one.
use Rattle.std.proofs.Common.{◌≡◌, ◌∙◌, ◌<◌, pos, ap, subst, arith, rules, get_or, length, FitsSigned, to_z, of_z}
use Rattle.std.specs.Int.{w64, w128}
use Rattle.std.proofs.lemmas.Int.{to_z-of_z}
use Rattle.angle_fraction.specs.declared.Angle.{Angle}
use Rattle.linear_forms.specs.Linear.{IsOneMore}
use Rattle.linear_forms.proofs.AtLaws.{so_far-end, so_far-init, so_far-more}
use Rattle.linear_forms.proofs.form.Form.added_up.Goals as goal

pub factors-init : goal.factors-init
factors-init c =
    let a_fits : FitsSigned w64 c.args.self.now.sums.plain = search rules in
    let b_fits : FitsSigned w64 c.args.self.now.sums.pis = search rules in
    let u_fits : FitsSigned w128 c.in_ok-plain.plain = search rules in
    let v_fits : FitsSigned w128 c.in_ok-pis.pis = search rules in
    let plain = simp to_z-of_z at c.in_ok-plain.ensures in
    let pis = simp to_z-of_z at c.in_ok-pis.ensures in
    so_far-init c.args.self.now c.args.d c.args.params.now _ (to_z-of_z w128 c.in_ok-plain.plain u_fits ∙ plain) (to_z-of_z w128 c.in_ok-pis.pis v_fits ∙ pis)

pub factors-preserved : goal.factors-preserved
factors-preserved c =
    let fits : FitsSigned w64 (get_or c.deref-factor-items.result.now c.factors.i (pos 0)) = search rules in
    let factor = to_z w64 (of_z w64 (get_or c.deref-factor-items.result.now c.factors.i (pos 0))) in
    let all = ap length c.deref-factor-items.ensures.value in
    let less : c.factors.i < length c.args.self.now.sums.factors.items = omega (arith, all) in
    let same : to_z w64 (of_z w64 (get_or c.deref-factor-items.result.now c.factors.i (pos 0))) ≡ get_or c.args.self.now.sums.factors.items c.factors.i (pos 0) =
    to_z-of_z w64 (get_or c.deref-factor-items.result.now c.factors.i (pos 0)) fits ∙ ap (λ xs. get_or xs c.factors.i (pos 0)) c.deref-factor-items.ensures.value in
    let one = subst (λ (a : Angle). IsOneMore c.args.d factor a c.factors.totals c.in_ok-totals.totals) c.param.ensures c.in_ok-totals.ensures in
    so_far-more c.args.self.now c.args.d c.args.params.now c.factors.i factor c.factors.totals c.in_ok-totals.totals less same one c.factors.invariant

pub returns : goal.returns
returns c = so_far-end c.args.self.now c.args.d c.args.params.now c.factors.i c.factors.totals (omega arith) c.factors.invariant
