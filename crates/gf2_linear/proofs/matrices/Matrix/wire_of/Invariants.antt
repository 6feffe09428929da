use Rattle.std.proofs.Common.{◌≡◌, ℕ, ◌<◌, slice_index}
use Rattle.gf2_linear.proofs.matrices.Matrix.wire_of.Given as goal

abbrev pub invariant-wires : goal.invariant-wires
invariant-wires l = (k : ℕ) → k < l.wire → slice_index l.self k ≡ l.row → ⊥
