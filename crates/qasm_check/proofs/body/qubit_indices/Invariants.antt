use Rattle.std.proofs.Common.{◌≡◌, map, take}
use Rattle.gate_library.specs.Names.{index_of}
use Rattle.qasm_check.proofs.body.qubit_indices.Given as goal

abbrev pub invariant-each : goal.invariant-each
invariant-each l = l.list.items ≡ map (λ x. index_of l.qubits x.name) (take l.arg-index l.args)
