use Rattle.matroid_partition.proofs.PlaceLaws.{IsHalfPut}
use Rattle.matroid_partition.proofs.blocks.with.Given as goal

abbrev pub invariant-places : goal.invariant-places
invariant-places l = IsHalfPut l.place l.places l.other-index l.more.items l.is_in
