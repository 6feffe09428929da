use Rattle.matroid_partition.proofs.DealtLaws.{written-more}
use Rattle.matroid_partition.proofs.dealt.write_at.Goals as goal

pub places-preserved : goal.places-preserved
places-preserved c =
    written-more c.args.list.now.items c.places.list.items c.args.places.now c.args.numbers.now c.places.index c.places.invariant c.places-test.true c.requires.once
    (c.requires.below c.places.index 0 c.places-test.true)
