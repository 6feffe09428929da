use Rattle.std.proofs.Common.{◌≡◌, ℕ, ◌+◌, ◌-◌, ◌<◌, ◌≤◌, List, bit_xor, length, get_or}
use Rattle.path_parity.proofs.packed.add.Given as goal

-- of the words from a place on so many were added, and the others are as they were
pub record IsAdded (old new set : List ℕ) (gap skip k : ℕ) : Type 0 where
  pub long : length new ≡ length old
  pub before : (j : ℕ) → j < gap → get_or new j 0 ≡ get_or old j 0
  pub added : (j : ℕ) → j < k → get_or new (gap + j) 0 ≡ bit_xor (get_or old (gap + j) 0) (get_or set (skip + j) 0)
  pub after : (j : ℕ) → gap + k ≤ j → get_or new j 0 ≡ get_or old j 0

abbrev pub invariant-eights : goal.invariant-eights
invariant-eights l = record {
  within : l.k ≤ l.many;
  words : IsAdded l.fn.row l.row l.set l.gap l.skip l.k;
}

abbrev pub decreases-eights : goal.decreases-eights
decreases-eights l = l.many - l.k

abbrev pub invariant-words : goal.invariant-words
invariant-words l = record {
  within : l.k ≤ l.many;
  words : IsAdded l.fn.row l.row l.set l.gap l.skip l.k;
}

abbrev pub decreases-words : goal.decreases-words
decreases-words l = l.many - l.k
