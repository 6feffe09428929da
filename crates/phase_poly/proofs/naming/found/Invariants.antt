-- None of the names so far is the wire's.
use Rattle.std.proofs.Common.{◌≡◌, ℕ, ◌<◌, slice_index}
use Rattle.phase_poly.proofs.naming.found.Given as goal

abbrev pub invariant-places : goal.invariant-places
invariant-places l = (k : ℕ) → k < l.i → slice_index l.names k ≡ l.q → ⊥
