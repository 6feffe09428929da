use Rattle.std.proofs.Common.{◌^◌, arith}
use Rattle.unitary_reference.proofs.ValueLaws.{turn_within, minus_within}
use Rattle.unitary_reference.proofs.entries.one_minus.Goals as goal

pub negated-requires : goal.negated-requires
negated-requires c = record { small = turn_within (2 ^ 60) (2 ^ 61) _ _ _ (omega arith) c.requires.small c.turned.ensures.turned }

pub plus-requires-clause-right : goal.plus-requires-clause-right
plus-requires-clause-right c = minus_within (2 ^ 61) _ _ (turn_within (2 ^ 60) (2 ^ 61) _ _ _ (omega arith) c.requires.small c.turned.ensures.turned) c.negated.ensures.negated
