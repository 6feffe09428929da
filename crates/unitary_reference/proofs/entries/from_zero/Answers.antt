use Rattle.std.proofs.Common.{◌^◌, arith}
use Rattle.unitary_reference.proofs.ValueLaws.{turn_within, one_plus_within, one_minus_within}
use Rattle.unitary_reference.proofs.entries.from_zero.Goals as goal

pub turned-requires : goal.turned-requires
turned-requires c = record { small = one_minus_within (2 ^ 59) (2 ^ 61) _ _ _ (omega arith) c.requires.second c.one_minus.ensures.value }

pub plus-requires-clause-left : goal.plus-requires-clause-left
plus-requires-clause-left c = one_plus_within (2 ^ 59) (2 ^ 61) _ _ _ (omega arith) c.requires.first c.one_plus.ensures.value

pub plus-requires-clause-right : goal.plus-requires-clause-right
plus-requires-clause-right c = turn_within (2 ^ 61) (2 ^ 61) _ _ _ (omega arith) (one_minus_within (2 ^ 59) (2 ^ 61) _ _ _ (omega arith) c.requires.second c.one_minus.ensures.value) c.turned.ensures.turned
