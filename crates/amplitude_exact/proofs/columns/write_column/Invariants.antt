use Rattle.std.proofs.Common.{ℕ, ◌<◌, Bool, List, ◌∷◌, get_or}
use Rattle.unitary_model.specs.declared.Op.{Op}
use Rattle.amplitude_exact.specs.declared.values.Value.{Value}
use Rattle.amplitude_exact.specs.Columns.{IsColumn, IsValue}
use Rattle.amplitude_exact.specs.Values.{ring_of}
use Rattle.amplitude_exact.proofs.columns.write_column.Given as goal

abbrev pub invariant-numbers : goal.invariant-numbers
invariant-numbers l = (k : ℕ) → k < l.number → (d : Value) (us : List Op) (to : List Bool) → IsColumn l.wires us to l.column → IsValue l.wires (l.fn.op ∷ us) to k (ring_of (get_or l.next k d))
