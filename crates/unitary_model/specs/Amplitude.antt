-- The amplitude of a list of operations from bits x to bits y: the entry of its matrix, times 2^weight.
--     bit_of x q          the bit of x at wire q, false past the end
--     with_bit x q b      x with bit b at wire q, the same x past the end
--     same_bits x y       whether x and y are the same
--     one_plus a v        (1 + w^a) v
--     one_minus a v       (1 - w^a) v
--     amplitude us x y    the amplitude
use Rattle.std.specs.Prelude.{ℕ, zero, suc, ◌+◌, Bool, true, false, not, cond, List, [], ◌∷◌}
use Rattle.unitary_model.specs.declared.Op.{Op}
use Rattle.unitary_model.specs.declared.Op.TheVariants.{U, Cx}
use Rattle.unitary_model.specs.Ring.{Ring, nought, unit, plus, minus, turn}

abbrev pub bit_of : List Bool → ℕ → Bool
bit_of [] q = false
bit_of (b ∷ x) zero = b
bit_of (b ∷ x) (suc q) = bit_of x q

abbrev pub with_bit : List Bool → ℕ → Bool → List Bool
with_bit [] q b = []
with_bit (a ∷ x) zero b = b ∷ x
with_bit (a ∷ x) (suc q) b = a ∷ with_bit x q b

abbrev pub same_bits : List Bool → List Bool → Bool
same_bits [] [] = true
same_bits (true ∷ x) (true ∷ y) = same_bits x y
same_bits (false ∷ x) (false ∷ y) = same_bits x y
same_bits _ _ = false

abbrev pub one_plus : ℕ → Ring → Ring
one_plus a v = plus v (turn a v)

abbrev pub one_minus : ℕ → Ring → Ring
one_minus a v = plus v (minus (turn a v))

-- By the first operation. A CNOT flips the target where the control is 1. Twice the matrix of U(a,b,c), by the bit that comes in:
--     from 0:   to 0  1 + w^a                 to 1  w^b w^2 (1 - w^a)
--     from 1:   to 0  - w^c w^2 (1 - w^a)     to 1  w^(b+c) (1 + w^a)
abbrev pub amplitude : List Op → List Bool → List Bool → Ring
amplitude [] x y = cond (same_bits x y) unit nought
amplitude (Cx c t ∷ us) x y = amplitude us (cond (bit_of x c) (with_bit x t (not (bit_of x t))) x) y
amplitude (U a b c q ∷ us) x y =
    let to0 = amplitude us (with_bit x q false) y in
    let to1 = amplitude us (with_bit x q true) y in
    cond (bit_of x q)
    (plus (minus (turn (c + 2) (one_minus a to0))) (turn (b + c) (one_plus a to1)))
    (plus (one_plus a to0) (turn (b + 2) (one_minus a to1)))
