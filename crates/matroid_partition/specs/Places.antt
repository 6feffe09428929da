-- Working form. Lists of places.
--   Has places x           x is one of the places
--   IsAscending places     each place is below those behind it
--   put_in x places        x put before the first place that is greater
--   taken_out x places     the places but x
use Rattle.std.specs.Prelude.{◌≡◌, ◌⊎◌, ℕ, ◌<◌, ◌==◌, List, [], ◌∷◌, cond, nat_lt}

abbrev pub Has : List ℕ → ℕ → Type 0
Has [] x = ⊥
Has (p ∷ places) x = (p ≡ x) ⊎ Has places x

abbrev pub IsAscending : List ℕ → Type 0
IsAscending [] = Unit {0}
IsAscending (p ∷ places) = ((x : ℕ) → Has places x → p < x) × IsAscending places

abbrev pub put_in : ℕ → List ℕ → List ℕ
put_in x [] = x ∷ []
put_in x (p ∷ places) = cond (nat_lt x p) (x ∷ (p ∷ places)) (p ∷ put_in x places)

abbrev pub taken_out : ℕ → List ℕ → List ℕ
taken_out x [] = []
taken_out x (p ∷ places) = cond (p == x) (taken_out x places) (p ∷ taken_out x places)
