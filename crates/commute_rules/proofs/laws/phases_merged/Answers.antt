use Rattle.commute_rules.proofs.TableLaws.{merging_in}
use Rattle.commute_rules.proofs.laws.phases_merged.Goals as goal

pub returns-clause-same : goal.returns-clause-same
returns-clause-same c = merging_in c.fine_below.ensures.below
