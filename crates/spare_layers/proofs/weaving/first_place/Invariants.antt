-- No wire so far has the row.
use Rattle.std.proofs.Common.{◌≡◌, ℕ, ◌<◌, slice_index}
use Rattle.spare_layers.proofs.weaving.first_place.Given as goal

abbrev pub invariant-wires : goal.invariant-wires
invariant-wires l = (k : ℕ) → k < l.wire → slice_index l.held k ≡ l.row → ⊥
