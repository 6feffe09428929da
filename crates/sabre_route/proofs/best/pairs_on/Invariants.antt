use Rattle.std.proofs.Common.{◌≡◌, ℕ, ◌<◌, cond, length, take, slice_index}
use Rattle.std.specs.Int.{bit_at}
use Rattle.coupling_map.specs.declared.TheConstants.{MOST_QUBITS}
use Rattle.sabre_route.specs.Scores.{has_end}
use Rattle.sabre_route.proofs.best.pairs_on.Given as goal

abbrev pub invariant-pairs : goal.invariant-pairs
invariant-pairs l = (length l.on ≡ MOST_QUBITS) × ((a i : ℕ) → a < l.size → bit_at (slice_index l.on a) i ≡ cond (has_end (take l.number l.pairs) i a) 1 0)
