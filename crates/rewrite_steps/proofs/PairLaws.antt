-- Two gates past those between.
--   reduces, bound   what the gates are together, and that one between is in the way
use Rattle.std.proofs.Common.{◌≡◌, ℕ, ◌<◌, List, Some, sym, subst, ◌∙◌, slice_get}
use Rattle.circuit_list.specs.declared.Gate.{Gate}
use Rattle.commute_rules.specs.declared.Cancel.{Cancel}
use Rattle.commute_rules.specs.declared.Cancel.TheVariants.{No, Both, Merge}
use Rattle.commute_rules.specs.Cancels.{cancel_of}
use Rattle.commute_rules.specs.Reducible.{IsReducible}
use Rattle.rewrite_steps.specs.Pairs.{IsFree, Reduces}

same_gate : (gs : List Gate) (i : ℕ) (g h : Gate) → slice_get gs i ≡ Some g → slice_get gs i ≡ Some h → g ≡ h
same_gate gs i g h e f = cc

pub reduces : (gs : List Gate) (i j : ℕ) (g h : Gate) (c : Cancel) → slice_get gs i ≡ Some g → slice_get gs j ≡ Some h → i < j → IsFree g gs i j → c ≡ cancel_of g h → Reduces gs i j c
reduces gs i j g h No e f lt free is = λ p.
    p.cancel ((λ z. cancel_of (same_gate gs i p.first g p.at_first e z) (same_gate gs j p.second h p.at_second f z)) ∙ sym is)
reduces gs i j g h (Both turn) e f lt free is = (record { first = g; second = h; at_first = e; at_second = f; before = lt; cancel = some; commute = free }, sym is)
  where
    some : cancel_of g h ≡ No → ⊥
    some n = let z : Both turn ≡ No = is ∙ n in cc
reduces gs i j g h (Merge m) e f lt free is = (record { first = g; second = h; at_first = e; at_second = f; before = lt; cancel = some; commute = free }, sym is)
  where
    some : cancel_of g h ≡ No → ⊥
    some n = let z : Merge m ≡ No = is ∙ n in cc

pub bound : (gs : List Gate) (i j : ℕ) (g : Gate) → slice_get gs i ≡ Some g → (IsFree g gs i j → ⊥) → IsReducible gs i j → ⊥
bound gs i j g e stops p = stops (subst (λ z. IsFree z gs i j) (same_gate gs i p.first g p.at_first e) p.commute)
