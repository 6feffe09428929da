-- Gates by number, apart from names.
--   Formula      an expression; a parameter is told by its index among the gate's parameters, and parentheses are gone
--   number, pi, param, negated, called, binary   a value; pi; a parameter; minus a part; a function of a part; two parts with a
--                sign between
--   Item         a line of a gate's body: a gate by its number, its angles, and its qubits by their indices among those of
--                the gate whose body it is; or a barrier
--   call, barrier   such a gate; a barrier
--   BoundGate         `U`, `CX`, a gate without a body, or one with a body
--   u, cx, opaque, composed   these four, in this order
--   gate_params, gate_qubits   how many parameters and qubits a gate has
--   gate_at      the gate of this number
--   is_opaque    a gate without a body
use Rattle.std.specs.Prelude.{ℕ, List, Bool, true, false, slice_get, unwrap_or}
use Rattle.angle_fraction.specs.Fraction.{Fraction}
use Rattle.angle_fraction.specs.declared.signs.Function.{Function}
use Rattle.angle_fraction.specs.declared.signs.Binary.{Binary}

pub data Formula : Type 0 where
  number : (value : Fraction) → Formula
  pi : Formula
  param : (index : ℕ) → Formula
  negated : (part : Formula) → Formula
  called : (function : Function) (part : Formula) → Formula
  binary : (sign : Binary) (left right : Formula) → Formula

pub data Item : Type 0 where
  call : (gate : ℕ) (angles : List Formula) (qubits : List ℕ) → Item
  barrier : Item

pub data BoundGate : Type 0 where
  u : BoundGate
  cx : BoundGate
  opaque : (params qubits : ℕ) → BoundGate
  composed : (params qubits : ℕ) (body : List Item) → BoundGate

abbrev pub gate_params : BoundGate → ℕ
gate_params u = 3
gate_params cx = 0
gate_params (opaque params qubits) = params
gate_params (composed params qubits body) = params

abbrev pub gate_qubits : BoundGate → ℕ
gate_qubits u = 1
gate_qubits cx = 2
gate_qubits (opaque params qubits) = qubits
gate_qubits (composed params qubits body) = qubits

abbrev pub is_opaque : BoundGate → Bool
is_opaque (opaque params qubits) = true
is_opaque _ = false

-- every number that a name stands for is that of a gate
abbrev pub gate_at : List BoundGate → ℕ → BoundGate
gate_at gates i = unwrap_or (slice_get gates i) u
