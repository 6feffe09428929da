-- The value that the totals give.
use Rattle.std.proofs.Common.{◌≡◌, ◌∙◌, ◌*◌, ◌<◌, pos, ap, refl, arith, rules, FitsSigned}
use Rattle.std.specs.Int.{w128}
use Rattle.std.proofs.lemmas.Int.{to_z-of_z}
use Rattle.linear_forms.specs.Linear.{LowestLaws}
use Rattle.linear_forms.proofs.AtLaws.{at_value}
use Rattle.linear_forms.proofs.form.Form.at.Goals as goal

pub returns : goal.returns
returns c = λ f form.
    let laws : LowestLaws = record { reduced = c.lowest_terms.ensures.reduced; same = c.lowest_terms.ensures.same; lowest = c.lowest_terms.ensures.lowest } in
    let t_fits : FitsSigned w128 c.in_ok-totals.totals.plain = search rules in
    let u_fits : FitsSigned w128 c.in_ok-totals.totals.pis = search rules in
    let d_fits : FitsSigned w128 c.from-den.result = search rules in
    let over = c.in_ok-over.ensures in
    let den : c.from-den.result ≡ pos (c.args.self.now.step * c.in_ok-d.d) = c.from-den.ensures ∙ ap pos (over.1) in
    let some : 0 < c.in_ok-d.d = omega arith in
    let kept = c.if-not-is_kept.ensures refl in
    let plain = simp to_z-of_z at c.in_ok-plain.ensures in
    let pis = simp to_z-of_z at c.in_ok-pis.ensures in
    at_value laws f c.args.self.now c.in_ok-d.d c.args.params.now c.in_ok-totals.totals c.from-den.result c.in_ok-plain.plain c.in_ok-pis.pis form c.in_ok-totals.ensures some kept.0 kept.1 den plain pis
