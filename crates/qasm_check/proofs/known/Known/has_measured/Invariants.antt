use Rattle.std.proofs.Common.{◌≡◌, false}
use Rattle.std.specs.List.{list_any}
use Rattle.gate_library.specs.Operands.{upto, wire_at}
use Rattle.qasm_check.specs.State.{state}
use Rattle.qasm_check.proofs.known.Known.has_measured.Given as goal

abbrev pub invariant-wires : goal.invariant-wires
invariant-wires l = list_any (λ j. (state l.self).measured (wire_at j l.operand)) (upto l.j) ≡ false
