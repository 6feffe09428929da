use Rattle.matroid_partition.proofs.PartitioningLaws.{none-kept}
use Rattle.matroid_partition.proofs.partitioning.Partitioning.none.Goals as goal

pub invariant_of-result : goal.invariant_of-result
invariant_of-result c = rw (c.new.ensures.items, c.new-2.ensures.value, c.new-3.ensures.items, c.new-4.ensures.items, c.new-5.ensures.items) none-kept
