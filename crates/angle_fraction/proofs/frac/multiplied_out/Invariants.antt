use Rattle.std.proofs.Common.{◌≡◌, Ok}
use Rattle.angle_fraction.specs.Fraction.{raised}
use Rattle.angle_fraction.specs.Angles.{fitted}
use Rattle.angle_fraction.proofs.frac.multiplied_out.Given as goal

abbrev pub invariant-loop-turn : goal.invariant-loop-turn
invariant-loop-turn l = fitted (raised l.a l._turn) ≡ Ok l.power
