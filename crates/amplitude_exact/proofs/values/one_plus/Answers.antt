use Rattle.std.proofs.Common.{◌^◌, arith}
use Rattle.amplitude_exact.proofs.SizeLaws.{turn_within}
use Rattle.amplitude_exact.proofs.values.one_plus.Goals as goal

pub plus-requires-clause-right : goal.plus-requires-clause-right
plus-requires-clause-right c = turn_within (2 ^ 121) (2 ^ 125) _ _ _ (omega arith) c.requires.small c.turned.ensures.turned
