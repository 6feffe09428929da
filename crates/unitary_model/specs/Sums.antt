-- Sums of ring values.
--     sum_over xs f       the sum of f over a list
--     all_bits n          all bit lists of length n
use Rattle.std.specs.Prelude.{ℕ, zero, suc, Bool, true, false, List, [], ◌∷◌, ◌++◌, map}
use Rattle.unitary_model.specs.Ring.{Ring, nought, plus}

abbrev pub sum_over : {X : Type 0} → List X → (X → Ring) → Ring
sum_over [] f = nought
sum_over (x ∷ xs) f = plus (f x) (sum_over xs f)

abbrev pub all_bits : ℕ → List (List Bool)
all_bits zero = [] ∷ []
all_bits (suc n) = map (λ x. false ∷ x) (all_bits n) ++ map (λ x. true ∷ x) (all_bits n)
