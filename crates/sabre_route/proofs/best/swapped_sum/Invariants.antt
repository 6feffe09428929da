use Rattle.std.proofs.Common.{◌≡◌, ◌+◌, ◌≤◌, ◌||◌, ℕ, cond, length}
use Rattle.std.specs.Int.{bit_at}
use Rattle.sabre_route.specs.Scores.{has_end}
use Rattle.sabre_route.proofs.SwapLaws.{midway}
use Rattle.sabre_route.proofs.best.swapped_sum.Given as goal

abbrev pub invariant-touched : goal.invariant-touched
invariant-touched l = (l.sum ≡ midway l.device l.a l.b l.pairs l.first)
    × ((l.first ≤ length l.pairs) × ((i : ℕ) → bit_at l.left i ≡ cond (has_end l.pairs (l.first + i) l.a || has_end l.pairs (l.first + i) l.b) 1 0))

abbrev pub decreases-touched : goal.decreases-touched
decreases-touched l = l.left
