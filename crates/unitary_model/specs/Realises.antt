-- When one list of operations realises another on more wires.
--     Realises S n R size first last k
--                         R on `size` wires is w^k times S on n of them: wire i of S begins at place first(i) and ends at place
--                         last(i), and a spare wire, from n on, only moves from its first place to its last
use Rattle.std.specs.Prelude.{◌≡◌, ℕ, ◌<◌, ◌≤◌, Bool, List, length, take, drop}
use Rattle.unitary_model.specs.declared.Op.{Op}
use Rattle.unitary_model.specs.Ring.{nought, turn, double}
use Rattle.unitary_model.specs.Operations.{weight}
use Rattle.unitary_model.specs.Amplitude.{amplitude}
use Rattle.unitary_model.specs.Placement.{IsPlacement, moved}

pub record Realises (S : List Op) (n : ℕ) (R : List Op) (size : ℕ) (first last : List ℕ) (k : ℕ) : Type 0 where
  pub fits : n ≤ size
  pub below : k < 8
  pub starts : IsPlacement size first
  pub ends : IsPlacement size last
  -- where the spare bits agree, the amplitudes do, up to w^k, weights counted
  pub agree : (x y : List Bool) → length x ≡ size → length y ≡ size → drop n x ≡ drop n y →
      double (weight S) (amplitude R (moved size first x) (moved size last y)) ≡ turn k (double (weight R) (amplitude S (take n x) (take n y)))
  -- elsewhere there is none
  pub elsewhere : (x y : List Bool) → length x ≡ size → length y ≡ size → (drop n x ≡ drop n y → ⊥) →
      amplitude R (moved size first x) (moved size last y) ≡ nought
