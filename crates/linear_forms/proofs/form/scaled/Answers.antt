-- A product with a constant above 0.
use Rattle.std.proofs.Common.{arith, pos, sym, rules, FitsSigned}
use Rattle.std.specs.Prelude.{◌<ℤ◌}
use Rattle.std.specs.Int.{w64, w128}
use Rattle.std.proofs.lemmas.Int.{ints, to_z-of_z}
use Rattle.linear_forms.proofs.LinearLaws.{scaled_up}
use Rattle.linear_forms.proofs.form.scaled.Goals as goal

pub returns-in_ok-step : goal.returns-in_ok-step
returns-in_ok-step c = λ x e f.
    let n_fits : FitsSigned w128 c.args.num = c.ranges.num in
    let d_fits : FitsSigned w128 c.args.den = c.ranges.den in
    let w_fits : FitsSigned w128 c.in_ok-wide.wide = search rules in
    let whole = simp to_z-of_z at c.in_ok-wide.ensures in
    let step = simp to_z-of_z at c.in_ok-step.ensures in
    let above : pos 0 <ℤ c.in_ok-wide.wide = omega (arith, ints) in
    scaled_up x c.args.step c.in_ok-step.step c.args.sign _ c.args.num c.args.den c.in_ok-wide.wide e f whole above (sym step) (to_z-of_z w64 c.args.sign c.ranges.sign)
