use Rattle.std.proofs.Common.{refl, lit<, lit≤, arith}
use Rattle.std.proofs.lemmas.Int.{ints}
use Rattle.angle_fraction.specs.Fraction.{common_factor, greatest_common}
use Rattle.angle_fraction.proofs.frac.Frac.unit.Goals as goal

pub invariant_of-result : goal.invariant_of-result
unfolding common_factor greatest_common
invariant_of-result c = record {
  positive = omega (arith, ints);
  lowest = record { positive = lit< tt; coprime = refl };
  num_size = lit≤ tt;
  den_size = lit≤ tt;
}
