use Rattle.std.proofs.Common.{ap, ◌∙◌}
use Rattle.matroid_partition.specs.Closed.{places_seen}
use Rattle.matroid_partition.proofs.DealingLaws.{dealing-back, dealing-opened, dealing-same, shown-marked}
use Rattle.matroid_partition.proofs.dealing.make_room.Goals as goal

pub returns-in-None-clause-dealing : goal.returns-in-None-clause-dealing
returns-in-None-clause-dealing c n m g =
    let back = rw c.in-None.is at c.in_ok-retry.ensures.none in
    dealing-back c.args.rows.now c.args.dealing.now c.retry.new.dealing n m back g

pub returns-in_ok-open_last-in-Some-clause-dealing : goal.returns-in_ok-open_last-in-Some-clause-dealing
returns-in_ok-open_last-in-Some-clause-dealing c n m g =
    let stuck = rw c.in-Some.is at c.in_ok-retry.ensures.some in
    dealing-opened c.args.rows.now c.retry.new.dealing c.open_last.new.dealing n m c.in_ok-open_last-in-Some.ensures
    (dealing-same c.args.rows.now c.args.dealing.now c.retry.new.dealing n m 1 stuck.same g)

pub returns-in_ok-open_last-in-Some-clause-some : goal.returns-in_ok-open_last-in-Some-clause-some
returns-in_ok-open_last-in-Some-clause-some c n m g f =
    let stuck = rw c.in-Some.is at c.in_ok-retry.ensures.some in
    shown-marked c.args.rows.now c.args.dealing.now c.retry.new.dealing n m c.in-Some.marks.items c.in_ok-reached-in-Some.reached.items c.facts.ensures.arranged stuck g f
    (c.in_ok-reached-in-Some.ensures.ok ∙ ap places_seen c.deref.ensures.value)
