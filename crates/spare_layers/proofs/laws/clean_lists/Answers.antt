use Rattle.spare_layers.proofs.SparedLaws.{Cleanly_turns, Cleanly_then, Cleanly_spared}
use Rattle.spare_layers.proofs.laws.clean_lists.Goals as goal

pub returns-clause-turns : goal.returns-clause-turns
returns-clause-turns c = Cleanly_turns

pub returns-clause-joined : goal.returns-clause-joined
returns-clause-joined c = Cleanly_then

pub returns-clause-spared : goal.returns-clause-spared
returns-clause-spared c = Cleanly_spared
