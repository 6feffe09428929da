-- Lines of bodies, with the forms of their angles.
--     AreForms os fs      forms, if there are any, are those of the expressions, one by one
--     angles_in x         the expressions of a line
--     gate_body g         the lines of a gate's body; none without one
use Rattle.std.specs.Prelude.{List, [], ◌∷◌, Option, IfSome}
use Rattle.gate_library.specs.Gates.{Formula, Item, call, barrier}
use Rattle.gate_library.specs.declared.gate.BoundGate.{BoundGate}
use Rattle.gate_library.specs.declared.gate.BoundGate.TheVariants.{U, Cx, Opaque, Composed}
use Rattle.gate_library.specs.declared.gate.Item.{Item as CodeItem}
use Rattle.linear_forms.specs.Linear.{IsForm}
use Rattle.linear_forms.specs.declared.form.Form.{Form}

abbrev pub AreForms : List (Option Form) → List Formula → Type 0
AreForms [] fs = Unit {0}
AreForms (o ∷ os) [] = Unit {0}
AreForms (o ∷ os) (f ∷ fs) = IfSome o (IsForm f) × AreForms os fs

abbrev pub angles_in : Item → List Formula
angles_in (call gate angles qubits) = angles
angles_in barrier = []

abbrev pub gate_body : BoundGate → List CodeItem
gate_body U = []
gate_body Cx = []
gate_body (Opaque params qubits) = []
gate_body (Composed params qubits body) = body.items
