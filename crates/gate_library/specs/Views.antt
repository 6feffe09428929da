-- What values of the code stand for.
--   formula, item, gate   a formula, a line of a body, a gate, apart from where their parts lie in memory
--   is_in                 whether a set of names has a name
use Rattle.std.specs.Prelude.{ℕ, List, Bool, map}
use Rattle.std.specs.BTreeSet.{BTreeSet, contains_by}
use Rattle.std.specs.Cmp.Lexicographic.{slice_cmp}
use Rattle.std.specs.Ordering.{nat_cmp}
use denote.Ref.{Bor}
use Rattle.gate_library.specs.Gates as spec
use Rattle.gate_library.specs.declared.formula.Formula.{Formula, Number, Pi, Param, Neg', Call', Binary'}
use Rattle.gate_library.specs.declared.gate.Item.{Item}
use Rattle.gate_library.specs.declared.gate.Item.TheVariants.{Call, Barrier}
use Rattle.gate_library.specs.declared.gate.BoundGate.{BoundGate}
use Rattle.gate_library.specs.declared.gate.BoundGate.TheVariants.{U, Cx, Opaque, Composed}

abbrev pub formula : Formula → spec.Formula
formula (Number value) = spec.number value
formula Pi = spec.pi
formula (Param index) = spec.param index
formula (Neg' p part) = spec.negated (formula part)
formula (Call' function p part) = spec.called function (formula part)
formula (Binary' sign p left right) = spec.binary sign (formula left) (formula right)

abbrev pub item : Item → spec.Item
item (Call gate angles qubits) = spec.call gate (map formula angles.items) qubits.items
item Barrier = spec.barrier

abbrev pub gate : BoundGate → spec.BoundGate
gate U = spec.u
gate Cx = spec.cx
gate (Opaque params qubits) = spec.opaque params qubits
gate (Composed params qubits body) = spec.composed params qubits (map item body.items)

abbrev pub is_in : BTreeSet (Bor (List ℕ)) → List ℕ → Bool
is_in names name = contains_by (λ k. slice_cmp nat_cmp name k.now) names
