-- No H on any wire so far.
use Rattle.std.proofs.Common.{◌≡◌, ℕ, length, slice_index}
use Rattle.path_sums.proofs.names.first_counts.Given as goal

abbrev pub invariant-wires : goal.invariant-wires
invariant-wires l = record {
  wires : length l.seen.items ≡ l.counter;
  none : (q : ℕ) → slice_index l.seen.items q ≡ 0;
}
