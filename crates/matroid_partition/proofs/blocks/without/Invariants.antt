use Rattle.std.proofs.Common.{◌≡◌, take}
use Rattle.matroid_partition.specs.Places.{taken_out}
use Rattle.matroid_partition.proofs.blocks.without.Given as goal

abbrev pub invariant-places : goal.invariant-places
invariant-places l = l.fewer.items ≡ taken_out l.place (take l.other-index l.places)
