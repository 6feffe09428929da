use Rattle.std.proofs.Common.{◌≡◌, map}
use Rattle.std.specs.List.{range_with_len}
use Rattle.matroid_partition.specs.Dealings.{at_home}
use Rattle.matroid_partition.proofs.dealt.lists_of.Given as goal

abbrev pub invariant-numbers : goal.invariant-numbers
invariant-numbers l = map (λ b. b.items) l.lists.items ≡ map (at_home l.homes) (range_with_len 0 l.number)
