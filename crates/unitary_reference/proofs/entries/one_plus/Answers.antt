use Rattle.std.proofs.Common.{◌^◌, arith}
use Rattle.unitary_reference.proofs.ValueLaws.{turn_within}
use Rattle.unitary_reference.proofs.entries.one_plus.Goals as goal

pub plus-requires-clause-right : goal.plus-requires-clause-right
plus-requires-clause-right c = turn_within (2 ^ 60) (2 ^ 61) _ _ _ (omega arith) c.requires.small c.turned.ensures.turned
