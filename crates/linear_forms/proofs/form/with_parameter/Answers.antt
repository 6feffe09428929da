-- One parameter more.
use Rattle.std.proofs.Common.{◌∙◌, arith, rules, FitsSigned}
use Rattle.std.specs.Int.{w64, w128}
use Rattle.std.proofs.lemmas.Int.{to_z-of_z}
use Rattle.linear_forms.proofs.AtLaws.{one_more}
use Rattle.linear_forms.proofs.form.with_parameter.Goals as goal

pub returns : goal.returns
returns c =
    let p_fits : FitsSigned w128 c.args.totals.plain = search rules in
    let q_fits : FitsSigned w128 c.args.totals.pis = search rules in
    let f_fits : FitsSigned w64 c.args.factor = c.ranges.factor in
    let x_fits : FitsSigned w64 c.in_ok-x.x = search rules in
    let y_fits : FitsSigned w64 c.in_ok-y.y = search rules in
    let u_fits : FitsSigned w128 c.in_ok-plain.plain = search rules in
    let v_fits : FitsSigned w128 c.in_ok-pis.pis = search rules in
    let plain = simp to_z-of_z at c.in_ok-plain.ensures in
    let pis = simp to_z-of_z at c.in_ok-pis.ensures in
    let first = simp to_z-of_z at c.unsigned_abs.ensures.value in
    let second = simp to_z-of_z at c.unsigned_abs-2.ensures.value in
    one_more c.args.d c.args.factor c.in_ok-x.x c.in_ok-y.y c.args.angle.now c.args.totals _ c.den.ensures.lowest c.den-else-den-lt1.ensures.lowest c.in_ok-x.ensures c.in_ok-y.ensures
    (to_z-of_z w128 c.in_ok-plain.plain u_fits ∙ plain) (to_z-of_z w128 c.in_ok-pis.pis v_fits ∙ pis)
    (omega (arith, first, c.max.ensures, c.max-2.ensures))
    (omega (arith, second, c.max-2.ensures))
    (omega (arith, c.max.ensures, c.max-2.ensures))
