-- The gates so far are the same.
use Rattle.std.proofs.Common.{◌≡◌, ℕ, ◌<◌, slice_get}
use Rattle.trace_check.proofs.goals.same_gates.Given as goal

abbrev pub invariant-gates : goal.invariant-gates
invariant-gates l = (k : ℕ) → k < l.place → slice_get l.left.gates k ≡ slice_get l.right.gates k
