-- Pairs of a list that can be cancelled or merged past the gates between them, and lists without such a pair.
--   IsReducible gs i j    the gates at the places i < j cancel or merge, and the one at i commutes with each between
--   NoReducible gs        there is no such pair
use Rattle.std.specs.Prelude.{◌≡◌, ℕ, ◌<◌, true, List, Some, slice_get}
use Rattle.circuit_list.specs.declared.Gate.{Gate}
use Rattle.commute_rules.specs.Commutes.{commutes}
use Rattle.commute_rules.specs.Cancels.{Cancels}

pub record IsReducible (gs : List Gate) (i j : ℕ) : Type 0 where
  pub first : Gate
  pub second : Gate
  pub at_first : slice_get gs i ≡ Some first
  pub at_second : slice_get gs j ≡ Some second
  pub before : i < j
  pub cancel : Cancels first second
  pub commute : (k : ℕ) (h : Gate) → i < k → k < j → slice_get gs k ≡ Some h → commutes first h ≡ true

abbrev pub NoReducible : List Gate → Type 0
NoReducible gs = (i j : ℕ) → ¬ (IsReducible gs i j)
