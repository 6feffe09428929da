use Rattle.matroid_partition.specs.Dealings.{at_home}
use Rattle.matroid_partition.proofs.DealtLaws.{lists-more}
use Rattle.matroid_partition.proofs.dealt.lists_of.Goals as goal

pub numbers-preserved : goal.numbers-preserved
numbers-preserved c =
    lists-more (λ v. v.items) (at_home c.args.homes.now) c.numbers.lists.items c.push.new.self.items c.in_ok-members.field-0 c.numbers.number c.numbers.invariant
    c.in_ok-members.ensures c.in_ok-push.ensures.items
