-- The search for a marked qubit.
--   IsNearest-more   one more qubit
use Rattle.std.proofs.Common.{◌≡◌, ℕ, ◌<◌, Bool, false, List, length, arith, inl, inr}
use Rattle.std.proofs.lemmas.List.{get_or_past}
use Rattle.std.proofs.lemmas.Bool.{cases_lt}
use Rattle.coupling_map.specs.Search.{mark}

pub none-marked : (marks : List Bool) (n : ℕ) → length marks ≡ n → ((y : ℕ) → y < n → mark marks y ≡ false) → (y : ℕ) → mark marks y ≡ false
none-marked marks n e h y = elim (cases_lt y n) [
  | inl l ↦ h y l
  | inr g ↦ get_or_past marks y false (omega (arith, e, g))
]

pub ruleset nearest = (none-marked)
