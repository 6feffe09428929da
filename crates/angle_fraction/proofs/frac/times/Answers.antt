use Rattle.std.proofs.Common.{◌*ℤ◌, lit<, FitsSigned}
use Rattle.std.specs.Int.{w128}
use Rattle.std.proofs.lemmas.Int.{fits_signed_mul, to_z-of_z, unsigned_abs-mul}
use Rattle.std.proofs.Math.Nat.{mul-le-mul}
use Rattle.angle_fraction.specs.Fraction.{most_part}
use Rattle.angle_fraction.proofs.frac.times.Goals as goal

pub returns-clause-value : goal.returns-clause-value
returns-clause-value c =
    let a_fits : FitsSigned w128 c.args.a = c.ranges.a in
    let b_fits : FitsSigned w128 c.args.b = c.ranges.b in
    let fits : FitsSigned w128 (c.args.a *ℤ c.args.b) = fits_signed_mul w128 c.args.a c.args.b most_part most_part c.requires.first c.requires.second (lit< tt) in
    simp to_z-of_z

pub returns-clause-size : goal.returns-clause-size
returns-clause-size c =
    let a_fits : FitsSigned w128 c.args.a = c.ranges.a in
    let b_fits : FitsSigned w128 c.args.b = c.ranges.b in
    let fits : FitsSigned w128 (c.args.a *ℤ c.args.b) = fits_signed_mul w128 c.args.a c.args.b most_part most_part c.requires.first c.requires.second (lit< tt) in
    simp (to_z-of_z, unsigned_abs-mul) (mul-le-mul c.requires.first c.requires.second)
