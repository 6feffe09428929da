-- Gates as operations, and what may stand in a circuit.
--   most_wires       the most wires of a circuit
--   op_of g          the gate as an operation
--   ops gs           the gates as operations, one by one
--   IsFine n g       on n wires: the wires are there, a control isn't its target, and a phase is from 1 to 7
--   is_h, is_cx, is_t  the kind of a gate; a phase with an odd k takes a T gate
--   h_count gs       the number of H
--   first_wire g, second_wire g  the wires of a gate, the same one twice where it has one
--   is_on w g        whether gate g is on wire w
use Rattle.std.specs.Prelude.{◌≢◌, ℕ, ◌%◌, ◌<◌, ◌||◌, ◌==◌, Bool, List, map}
use Rattle.std.specs.Prelude.{true, false}
use Rattle.std.specs.List.{count_by}
use Rattle.circuit_list.specs.declared.Gate.{Gate}
use Rattle.circuit_list.specs.declared.Gate.TheVariants.{H, X, P, Cx}
use Rattle.unitary_model.specs.declared.Op.{Op}
use Rattle.unitary_model.specs.declared.Op.TheVariants.{U, Cx as OpCx}
use Rattle.unitary_model.specs.Limits.{most_qubits}

abbrev pub most_wires : ℕ
most_wires = most_qubits

-- H is U(pi/2, 0, pi), X is U(pi, 0, pi), and P(k) is diag(1, w^k)
abbrev pub op_of : Gate → Op
op_of (H q) = U 2 0 4 q
op_of (X q) = U 4 0 4 q
op_of (P k q) = U 0 0 k q
op_of (Cx c t) = OpCx c t

abbrev pub ops : List Gate → List Op
ops gs = map op_of gs

abbrev pub IsFine : ℕ → Gate → Type 0
IsFine n (H q) = q < n
IsFine n (X q) = q < n
IsFine n (P k q) = (q < n) × ((0 < k) × (k < 8))
IsFine n (Cx c t) = (c < n) × ((t < n) × (c ≢ t))

abbrev pub is_h : Gate → Bool
is_h (H q) = true
is_h (X q) = false
is_h (P k q) = false
is_h (Cx c t) = false

abbrev pub is_cx : Gate → Bool
is_cx (H q) = false
is_cx (X q) = false
is_cx (P k q) = false
is_cx (Cx c t) = true

abbrev pub is_t : Gate → Bool
is_t (H q) = false
is_t (X q) = false
is_t (P k q) = k % 2 == 1
is_t (Cx c t) = false

abbrev pub h_count : List Gate → ℕ
h_count gs = count_by is_h gs

abbrev pub first_wire : Gate → ℕ
first_wire (H q) = q
first_wire (X q) = q
first_wire (P k q) = q
first_wire (Cx c t) = c

abbrev pub second_wire : Gate → ℕ
second_wire (H q) = q
second_wire (X q) = q
second_wire (P k q) = q
second_wire (Cx c t) = t

abbrev pub is_on : ℕ → Gate → Bool
is_on w (H q) = w == q
is_on w (X q) = w == q
is_on w (P k q) = w == q
is_on w (Cx c t) = (w == c) || (w == t)
