use Rattle.std.proofs.Common.{◌≡◌, get_or}
use Rattle.std.specs.Prelude.{filter, nat_eq}
use Rattle.std.specs.List.{range_with_len}
use Rattle.matroid_partition.proofs.dealt.members.Given as goal

abbrev pub invariant-homes : goal.invariant-homes
invariant-homes l = l.places.items ≡ filter (λ p. nat_eq (get_or l.homes p 0) l.number) (range_with_len 0 l.place)
