use Rattle.commute_rules.proofs.TableLaws.{commuting_in}
use Rattle.commute_rules.proofs.laws.commuting_exchanged.Goals as goal

pub returns : goal.returns
returns c = record { same = commuting_in c.fine_below.ensures.below }
