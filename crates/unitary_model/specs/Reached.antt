-- Working form. What a route that is underway has reached, between placements as lists.
--     Reached size first S R last k
--                         R is w^k times S, from the placement `first` to the placement `last`
use Rattle.std.specs.Prelude.{ℕ, List}
use Rattle.unitary_model.specs.declared.Op.{Op}
use Rattle.unitary_model.specs.Realised.{Placing, PlacedBy, Realised}

pub record Reached (size : ℕ) (first : List ℕ) (S R : List Op) (last : List ℕ) (k : ℕ) : Type 0 where
  pub from : Placing
  pub to : Placing
  pub starts : PlacedBy size first from
  pub ends : PlacedBy size last to
  pub realised : Realised S R from to k
