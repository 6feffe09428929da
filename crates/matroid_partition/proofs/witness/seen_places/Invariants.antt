use Rattle.std.proofs.Common.{◌≡◌, false, get_or}
use Rattle.std.specs.Prelude.{filter}
use Rattle.std.specs.List.{range_with_len}
use Rattle.matroid_partition.proofs.witness.seen_places.Given as goal

abbrev pub invariant-places : goal.invariant-places
invariant-places l = l.places.items ≡ filter (λ p. get_or l.seen p false) (range_with_len 0 l.place)
