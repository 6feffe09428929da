-- The seven windows around H, on any wires.
--     had q, flip q, phase k q        the gates H, X and P(k) as operations
--     had_s_had, had_sdg_had, had_z_had, had_x_had        H, a gate of the same wire, H
--     four_hads               a CNOT between H on both its wires
--     s_cx_sdg, sdg_cx_s      H S, a CNOT, S' H on its target, and the other way round
use Rattle.std.proofs.Common.{◌≢◌, ℕ, ◌+◌, List, [], ◌∷◌, map, refl, arith}
use Rattle.unitary_model.specs.declared.Op.{Op}
use Rattle.unitary_model.specs.declared.Op.TheVariants.{U, Cx}
use Rattle.unitary_model.specs.Ring.{nought, unit, plus, turn1}
use Rattle.unitary_model.specs.Acts.{Turns, place}
use Rattle.unitary_model.proofs.Steps.{Step}
use Rattle.unitary_model.proofs.PathRules.{two_fresh, two_fresh_gone, four_fresh, fresh_add_fresh}
use Rattle.unitary_model.proofs.Windows.{Agree, in_place, wires}

abbrev pub had : ℕ → Op
had q = U 2 0 4 q

abbrev pub flip : ℕ → Op
flip q = U 4 0 4 q

abbrev pub phase : ℕ → ℕ → Op
phase k q = U 0 0 k q

-- a window on the wires 0 and 1 holds on any two; a window of one wire takes any other as its second
on_two : (c t : ℕ) → c ≢ t → (k : ℕ) (A B : List Op) → Agree k A B → Turns k (map (place (wires c t (c + t + 1))) A) (map (place (wires c t (c + t + 1))) B)
on_two c t h k A B e = in_place c t (c + t + 1) (record { first_second = h; first_third = omega arith; second_third = omega arith }) k A B e

next : (q : ℕ) → q ≢ q + 1
next q = omega arith

had_s_had_window : Agree 6 (had 0 ∷ phase 2 0 ∷ had 0 ∷ []) (phase 6 0 ∷ had 0 ∷ phase 6 0 ∷ [])
unfolding Agree plus turn1 unit nought
had_s_had_window = refl

pub had_s_had : (q : ℕ) → Step 6 (had q ∷ phase 2 q ∷ had q ∷ []) (phase 6 q ∷ had q ∷ phase 6 q ∷ [])
had_s_had q = record { turns = on_two q (q + 1) (next q) 6 _ _ had_s_had_window; covers = two_fresh q; t_gates = omega arith; cx_gates = omega arith }

had_sdg_had_window : Agree 0 (had 0 ∷ phase 6 0 ∷ had 0 ∷ []) (phase 2 0 ∷ had 0 ∷ phase 2 0 ∷ [])
unfolding Agree plus turn1 unit nought
had_sdg_had_window = refl

pub had_sdg_had : (q : ℕ) → Step 0 (had q ∷ phase 6 q ∷ had q ∷ []) (phase 2 q ∷ had q ∷ phase 2 q ∷ [])
had_sdg_had q = record { turns = on_two q (q + 1) (next q) 0 _ _ had_sdg_had_window; covers = two_fresh q; t_gates = omega arith; cx_gates = omega arith }

had_z_had_window : Agree 0 (had 0 ∷ phase 4 0 ∷ had 0 ∷ []) (flip 0 ∷ [])
unfolding Agree plus turn1 unit nought
had_z_had_window = refl

pub had_z_had : (q : ℕ) → Step 0 (had q ∷ phase 4 q ∷ had q ∷ []) (flip q ∷ [])
had_z_had q = record { turns = on_two q (q + 1) (next q) 0 _ _ had_z_had_window; covers = two_fresh_gone q; t_gates = omega arith; cx_gates = omega arith }

had_x_had_window : Agree 4 (had 0 ∷ flip 0 ∷ had 0 ∷ []) (phase 4 0 ∷ [])
unfolding Agree plus turn1 unit nought
had_x_had_window = refl

pub had_x_had : (q : ℕ) → Step 4 (had q ∷ flip q ∷ had q ∷ []) (phase 4 q ∷ [])
had_x_had q = record { turns = on_two q (q + 1) (next q) 4 _ _ had_x_had_window; covers = two_fresh_gone q; t_gates = omega arith; cx_gates = omega arith }

four_hads_window : Agree 4 (had 0 ∷ had 1 ∷ Cx 0 1 ∷ had 0 ∷ had 1 ∷ []) (Cx 1 0 ∷ [])
unfolding Agree plus turn1 unit nought
four_hads_window = refl

pub four_hads : (c t : ℕ) → c ≢ t → Step 4 (had c ∷ had t ∷ Cx c t ∷ had c ∷ had t ∷ []) (Cx t c ∷ [])
four_hads c t h = record { turns = on_two c t h 4 _ _ four_hads_window; covers = four_fresh c t h; t_gates = omega arith; cx_gates = omega arith }

s_cx_sdg_window : Agree 6 (had 1 ∷ phase 2 1 ∷ Cx 0 1 ∷ phase 6 1 ∷ had 1 ∷ []) (phase 6 1 ∷ Cx 0 1 ∷ phase 2 1 ∷ [])
unfolding Agree plus turn1 unit nought
s_cx_sdg_window = refl

pub s_cx_sdg : (c t : ℕ) → c ≢ t → Step 6 (had t ∷ phase 2 t ∷ Cx c t ∷ phase 6 t ∷ had t ∷ []) (phase 6 t ∷ Cx c t ∷ phase 2 t ∷ [])
s_cx_sdg c t h = record { turns = on_two c t h 6 _ _ s_cx_sdg_window; covers = fresh_add_fresh c t; t_gates = omega arith; cx_gates = omega arith }

sdg_cx_s_window : Agree 6 (had 1 ∷ phase 6 1 ∷ Cx 0 1 ∷ phase 2 1 ∷ had 1 ∷ []) (phase 2 1 ∷ Cx 0 1 ∷ phase 6 1 ∷ [])
unfolding Agree plus turn1 unit nought
sdg_cx_s_window = refl

pub sdg_cx_s : (c t : ℕ) → c ≢ t → Step 6 (had t ∷ phase 6 t ∷ Cx c t ∷ phase 2 t ∷ had t ∷ []) (phase 2 t ∷ Cx c t ∷ phase 6 t ∷ [])
sdg_cx_s c t h = record { turns = on_two c t h 6 _ _ sdg_cx_s_window; covers = fresh_add_fresh c t; t_gates = omega arith; cx_gates = omega arith }
