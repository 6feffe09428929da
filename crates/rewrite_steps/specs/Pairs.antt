-- Working form.
-- Two gates of a list, past those between.
--   IsFree g gs i j         gate g commutes with each gate between the places i and j
--   Reduces gs i j c        c is what the gates at i and j are together, past those between: both gone, one phase, or neither
use Rattle.std.specs.Prelude.{◌≡◌, ℕ, ◌<◌, true, List, Some, slice_get}
use Rattle.circuit_list.specs.declared.Gate.{Gate}
use Rattle.commute_rules.specs.declared.Cancel.{Cancel}
use Rattle.commute_rules.specs.declared.Cancel.TheVariants.{No, Both, Merge}
use Rattle.commute_rules.specs.Cancels.{cancel_of}
use Rattle.commute_rules.specs.Commutes.{commutes}
use Rattle.commute_rules.specs.Reducible.{IsReducible}

abbrev pub IsFree : Gate → List Gate → ℕ → ℕ → Type 0
IsFree g gs i j = (k : ℕ) (h : Gate) → i < k → k < j → slice_get gs k ≡ Some h → commutes g h ≡ true

abbrev pub Reduces : List Gate → ℕ → ℕ → Cancel → Type 0
Reduces gs i j No = ¬ (IsReducible gs i j)
Reduces gs i j (Both turn) = (p : IsReducible gs i j) × (cancel_of p.first p.second ≡ Both turn)
Reduces gs i j (Merge k) = (p : IsReducible gs i j) × (cancel_of p.first p.second ≡ Merge k)
