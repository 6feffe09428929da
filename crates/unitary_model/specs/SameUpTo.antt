-- Lists of operations with the same unitary, up to a power of w.
--     SameUpTo k n A B    on n wires each amplitude of B is w^k times that of A, weights counted
use Rattle.std.specs.Prelude.{◌≡◌, ℕ, Bool, List, length}
use Rattle.unitary_model.specs.declared.Op.{Op}
use Rattle.unitary_model.specs.Ring.{turn, double}
use Rattle.unitary_model.specs.Operations.{weight}
use Rattle.unitary_model.specs.Amplitude.{amplitude}

pub record SameUpTo (k n : ℕ) (A B : List Op) : Type 0 where
  pub law : (x y : List Bool) → length x ≡ n → length y ≡ n → double (weight A) (amplitude B x y) ≡ turn k (double (weight B) (amplitude A x y))
