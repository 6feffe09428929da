use Rattle.std.proofs.Common.{◌^◌, arith}
use Rattle.amplitude_exact.proofs.SizeLaws.{turn_within, minus_within}
use Rattle.amplitude_exact.proofs.values.one_minus.Goals as goal

pub negated-requires : goal.negated-requires
negated-requires c = record { small = turn_within (2 ^ 121) (2 ^ 125) _ _ _ (omega arith) c.requires.small c.turned.ensures.turned }

pub plus-requires-clause-right : goal.plus-requires-clause-right
plus-requires-clause-right c = minus_within (2 ^ 125) _ _ (turn_within (2 ^ 121) (2 ^ 125) _ _ _ (omega arith) c.requires.small c.turned.ensures.turned) c.negated.ensures.negated
