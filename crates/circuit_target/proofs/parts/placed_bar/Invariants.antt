-- The qubits of the first wires.
use Rattle.std.proofs.Common.{◌≡◌, map, take}
use Rattle.std.specs.Prelude.{slice_index}
use Rattle.circuit_target.proofs.parts.placed_bar.Given as goal

abbrev pub invariant-wires : goal.invariant-wires
invariant-wires l = l.qubits.items ≡ map (slice_index l.last) (take l.wire-index l.bar)
