use Rattle.std.proofs.Common.{ap, ◌∙◌}
use Rattle.angle_fraction.specs.Angles.{fitted}
use Rattle.angle_fraction.proofs.PowerLaws.{sign_power}
use Rattle.angle_fraction.proofs.frac.raised.Goals as goal

pub returns-then-is_sign : goal.returns-then-is_sign
returns-then-is_sign c = record { value = c.multiplied_out.ensures ∙ ap fitted (sign_power c.args.a.now c.args.exponent (c.is_sign.ensures.sign.0 c.if-is_sign.true) c.requires.positive) }
