-- The working form of `Realises`, on the bits of all wires at once. Spare wires need no word here: they are wires like others.
--     Placing             a permutation of all wires and its inverse: `to` says where a wire stands, `from` which wire is at a place
--     PlacedBy size p P   P is the list placement p on the first `size` wires, and leaves the others
--     carried P x         the bits x, bit i at place P.to(i)
--     Realised S R P Q k  R between the places P and Q is w^k times S, on every function of the bits, weights counted
use Rattle.std.specs.Prelude.{◌≡◌, ℕ, ◌<◌, ◌≤◌, List, slice_index}
use Rattle.unitary_model.specs.declared.Op.{Op}
use Rattle.unitary_model.specs.Ring.{Ring, turn, double}
use Rattle.unitary_model.specs.Operations.{weight}
use Rattle.unitary_model.specs.Acts.{Bits, applied}

pub record Placing : Type 0 where
  pub to : ℕ → ℕ
  pub from : ℕ → ℕ
  pub from_to : (i : ℕ) → from (to i) ≡ i
  pub to_from : (j : ℕ) → to (from j) ≡ j

pub record PlacedBy (size : ℕ) (p : List ℕ) (P : Placing) : Type 0 where
  pub low : (i : ℕ) → i < size → P.to i ≡ slice_index p i
  pub high : (i : ℕ) → size ≤ i → P.to i ≡ i

abbrev pub carried : Placing → Bits → Bits
carried P x = λ j. x (P.from j)

pub record Realised (S R : List Op) (P Q : Placing) (k : ℕ) : Type 0 where
  pub law : (f : Bits → Ring) (x : Bits) → double (weight S) (applied R f (carried P x)) ≡ turn k (double (weight R) (applied S (λ z. f (carried Q z)) x))
