use Rattle.matroid_partition.proofs.DealingLaws.{dealing-none}
use Rattle.matroid_partition.proofs.dealing.undealt.Goals as goal

pub returns-clause-dealing : goal.returns-clause-dealing
returns-clause-dealing c rows m =
    dealing-none rows m (record { held = c.none.result; names = c.new.result; over = c.new-2.result }) c.none.ensures.rows c.new.ensures.items c.new-2.ensures.items
