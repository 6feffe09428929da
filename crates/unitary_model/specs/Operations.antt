-- Lists of operations, in circuit order, and what is counted of them.
--     weight us           the number of U
--     t_count us          the number of T gates that the list takes
--     cx_count us         the number of CNOTs
--     WiresBelow n us     each wire of the list is below n
--     IsPlain u           u is H, X, P(k) with k from 1 to 7, or a CNOT; of a list: All IsPlain us
use Rattle.std.specs.Prelude.{◌≡◌, ℕ, suc, ◌+◌, ◌%◌, ◌<◌, ◌≤◌, cond, nat_eq, ◌⊎◌, List, [], ◌∷◌}
use Rattle.unitary_model.specs.declared.Op.{Op}
use Rattle.unitary_model.specs.declared.Op.TheVariants.{U, Cx}

abbrev pub weight : List Op → ℕ
weight [] = 0
weight (U a b c q ∷ us) = suc (weight us)
weight (Cx c t ∷ us) = weight us

-- a diagonal U is the phase b + c; any other is a product of H and of the phases a, b and c, up to Clifford gates
abbrev pub t_count : List Op → ℕ
t_count [] = 0
t_count (Cx c t ∷ us) = t_count us
t_count (U a b c q ∷ us) = cond (nat_eq a 0) ((b + c) % 2) (a % 2 + b % 2 + c % 2) + t_count us

abbrev pub cx_count : List Op → ℕ
cx_count [] = 0
cx_count (Cx c t ∷ us) = suc (cx_count us)
cx_count (U a b c q ∷ us) = cx_count us

abbrev pub WiresBelow : ℕ → List Op → Type 0
WiresBelow n [] = Unit {0}
WiresBelow n (U a b c q ∷ us) = (q < n) × WiresBelow n us
WiresBelow n (Cx c t ∷ us) = (c < n) × ((t < n) × WiresBelow n us)

-- H is U(2,0,4), X is U(4,0,4), P(k) is U(0,0,k)
abbrev pub IsPlain : Op → Type 0
IsPlain (Cx c t) = Unit {0}
IsPlain (U a b c q) = ((a ≡ 2) × (b ≡ 0) × (c ≡ 4)) ⊎ (((a ≡ 4) × (b ≡ 0) × (c ≡ 4)) ⊎ ((a ≡ 0) × (b ≡ 0) × (1 ≤ c) × (c < 8)))
