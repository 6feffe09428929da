use Rattle.std.proofs.Common.{◌≡◌, false, not, take}
use Rattle.std.specs.List.{list_any}
use Rattle.gate_library.specs.Names.{is_one_of}
use Rattle.qasm_check.proofs.body.is_foreign.Given as goal

abbrev pub invariant-each : goal.invariant-each
invariant-each l = list_any (λ x. not (is_one_of l.qubits x.name)) (take l.arg-index l.args) ≡ false
