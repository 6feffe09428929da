use Rattle.commute_rules.proofs.TableLaws.{cancelling_in}
use Rattle.commute_rules.proofs.laws.cancelling_gone.Goals as goal

pub returns : goal.returns
returns c = record { same = cancelling_in c.fine_below.ensures.below }
