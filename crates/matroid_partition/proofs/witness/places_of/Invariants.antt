use Rattle.std.proofs.Common.{◌≡◌, map}
use Rattle.matroid_partition.proofs.witness.places_of.Given as goal

abbrev pub invariant-lists : goal.invariant-lists
invariant-lists l = map (λ b. b.items) l.lists.items ≡ map (λ b. b.places.items) l.yielded
