-- Odd path parities. Each wire has a label, a set of variables; the list is walked, and the labels of odd multiplicity are kept.
--     Labels              the label of each wire; a label is the number whose bit v says whether variable v is in it
--     relabel ls q l      the labels ls, but l at wire q
--     own_variables n     each of the n wires has its own variable alone
--     toggle l s          the list s without the label l if it has it, else with it
--     Walk                the labels, the least variable not used so far, and the odd set
--     toggle_at q w       the label of wire q is put into the odd set, or taken out
--     toggle_odd k q w    the same where k is odd
--     fresh_at q w        the least variable not used so far is the label of wire q
--     add_at c t w        the label of wire t is its symmetric difference with that of wire c
--     walked u w          the walk w after operation u;  walked_all us w: after a list
--     first_walk n        n wires with their own variables, and nothing odd
--     odd_paths n us      the number of odd path parities of a list on n wires
use Rattle.std.specs.Prelude.{ℕ, ◌+◌, ◌%◌, ◌^◌, cond, List, [], ◌∷◌, length, nat_eq, nat_lt, bit_xor}
use Rattle.unitary_model.specs.declared.Op.{Op}
use Rattle.unitary_model.specs.declared.Op.TheVariants.{U, Cx}

abbrev pub Labels : Type 0
Labels = ℕ → ℕ

abbrev pub relabel : Labels → ℕ → ℕ → Labels
relabel labels q l = λ p. cond (nat_eq p q) l (labels p)

abbrev pub own_variables : ℕ → Labels
own_variables n = λ q. cond (nat_lt q n) (2 ^ q) 0

abbrev pub toggle : ℕ → List ℕ → List ℕ
toggle l [] = l ∷ []
toggle l (m ∷ s) = cond (nat_eq m l) s (m ∷ toggle l s)

pub record Walk : Type 0 where
  pub labels : Labels
  pub unused : ℕ
  pub odd : List ℕ

abbrev pub toggle_at : ℕ → Walk → Walk
toggle_at q w = record { labels = w.labels; unused = w.unused; odd = toggle (w.labels q) w.odd }

abbrev pub toggle_odd : ℕ → ℕ → Walk → Walk
toggle_odd k q w = cond (nat_eq (k % 2) 1) (toggle_at q w) w

abbrev pub fresh_at : ℕ → Walk → Walk
fresh_at q w = record { labels = relabel w.labels q (2 ^ w.unused); unused = w.unused + 1; odd = w.odd }

abbrev pub add_at : ℕ → ℕ → Walk → Walk
add_at c t w = record { labels = relabel w.labels t (bit_xor (w.labels t) (w.labels c)); unused = w.unused; odd = w.odd }

-- a U with a = 0 or 4 is a phase, with a = 2 or 6 it has one H, and with an odd a two of them around a phase
abbrev pub walked : Op → Walk → Walk
walked (Cx c t) w = add_at c t w
walked (U a b c q) w =
    cond (nat_eq (a % 4) 0) (toggle_odd (b + c) q w)
    (cond (nat_eq (a % 2) 0) (toggle_odd b q (fresh_at q (toggle_odd c q w)))
    (toggle_odd b q (fresh_at q (toggle_at q (fresh_at q (toggle_odd c q w))))))

abbrev pub walked_all : List Op → Walk → Walk
walked_all [] w = w
walked_all (u ∷ us) w = walked_all us (walked u w)

abbrev pub first_walk : ℕ → Walk
first_walk n = record { labels = own_variables n; unused = n; odd = [] }

abbrev pub odd_paths : ℕ → List Op → ℕ
odd_paths n us = length (walked_all us (first_walk n)).odd
