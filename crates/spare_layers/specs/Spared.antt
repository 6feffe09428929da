-- When one list of operations does the work of another with spare wires behind it that start at zero.
--     zeros m             m bits that are 0
--     IsSpared S n R m k  R on n wires and m spares is w^k times S on the wires, where the spares start at 0; they end at 0
--     IsClean n x         all bits from wire n on are 0
--     Cleanly n k A B     B is w^k times A on every function of the bits, where those from wire n on are 0, weights counted
use Rattle.std.specs.Prelude.{◌≡◌, ℕ, ◌<◌, ◌≤◌, Bool, false, List, ◌++◌, length, replicate}
use Rattle.unitary_model.specs.declared.Op.{Op}
use Rattle.unitary_model.specs.Ring.{Ring, nought, turn, double}
use Rattle.unitary_model.specs.Operations.{weight}
use Rattle.unitary_model.specs.Amplitude.{amplitude}
use Rattle.unitary_model.specs.Acts.{Bits, applied}

abbrev pub zeros : ℕ → List Bool
zeros m = replicate m false

pub record IsSpared (S : List Op) (n : ℕ) (R : List Op) (m k : ℕ) : Type 0 where
  pub below : k < 8
  -- where the spares end at 0, the amplitudes agree, up to w^k, weights counted
  pub agree : (x y : List Bool) → length x ≡ n → length y ≡ n →
      double (weight S) (amplitude R (x ++ zeros m) (y ++ zeros m)) ≡ turn k (double (weight R) (amplitude S x y))
  -- elsewhere there is none
  pub elsewhere : (x y z : List Bool) → length x ≡ n → length y ≡ n → length z ≡ m → (z ≡ zeros m → ⊥) →
      amplitude R (x ++ zeros m) (y ++ z) ≡ nought

abbrev pub IsClean : ℕ → Bits → Type 0
IsClean n x = (q : ℕ) → n ≤ q → x q ≡ false

pub record Cleanly (n k : ℕ) (A B : List Op) : Type 0 where
  pub law : (f : Bits → Ring) (x : Bits) → IsClean n x →
      double (weight A) (applied B f x) ≡ turn k (double (weight B) (applied A f x))
