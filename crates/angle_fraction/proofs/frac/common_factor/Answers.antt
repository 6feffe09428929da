use Rattle.std.proofs.Common.{◌<◌, ℤ, pos, arith, subst, sym, FitsSigned}
use Rattle.std.specs.Prelude.{unsigned_abs}
use Rattle.std.specs.Int.{IsGcd, w128}
use Rattle.std.proofs.lemmas.Int.{ints, to_z_pos, to_z-of_z, fits_signed_from_abs}
use Rattle.angle_fraction.proofs.LowestLaws.{factor_bound}
use Rattle.angle_fraction.proofs.frac.common_factor.Goals as goal

pub overflow_cast-result : goal.overflow_cast-result
overflow_cast-result c =
    let n_fits : FitsSigned w128 c.args.num = c.ranges.num in
    let d_fits : FitsSigned w128 c.args.den = c.ranges.den in
    let gcd = simp (c.unsigned_abs.ensures.value, c.unsigned_abs-2.ensures.value, to_z-of_z) at c.greatest_divisor-factor.ensures in
    let bounds = factor_bound c.args.num c.args.den _ c.requires d_fits gcd in
    fits_signed_from_abs w128 (pos c.greatest_divisor-factor.result) bounds.1

pub returns-clause-greatest : goal.returns-clause-greatest
returns-clause-greatest c =
    let n_fits : FitsSigned w128 c.args.num = c.ranges.num in
    let d_fits : FitsSigned w128 c.args.den = c.ranges.den in
    let gcd = simp (c.unsigned_abs.ensures.value, c.unsigned_abs-2.ensures.value, to_z-of_z) at c.greatest_divisor-factor.ensures in
    let bounds = factor_bound c.args.num c.args.den _ c.requires d_fits gcd in
    subst (λ (z : ℤ). IsGcd (unsigned_abs c.args.num) (unsigned_abs c.args.den) (unsigned_abs z)) (sym (to_z_pos w128 c.greatest_divisor-factor.result bounds.1)) gcd

pub returns-clause-positive : goal.returns-clause-positive
returns-clause-positive c =
    let n_fits : FitsSigned w128 c.args.num = c.ranges.num in
    let d_fits : FitsSigned w128 c.args.den = c.ranges.den in
    let gcd = simp (c.unsigned_abs.ensures.value, c.unsigned_abs-2.ensures.value, to_z-of_z) at c.greatest_divisor-factor.ensures in
    let bounds = factor_bound c.args.num c.args.den _ c.requires d_fits gcd in
    let some : 0 < c.greatest_divisor-factor.result = bounds.0 in
    let is = to_z_pos w128 c.greatest_divisor-factor.result bounds.1 in
    omega (arith, ints)
