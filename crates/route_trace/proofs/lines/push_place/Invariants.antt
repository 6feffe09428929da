-- The numbers so far are written.
use Rattle.std.proofs.Common.{◌≡◌, ◌++◌, take}
use Rattle.std.specs.Prelude.{codes}
use Rattle.rewrite_pass.specs.TraceLines.{words}
use Rattle.route_trace.proofs.lines.push_place.Given as goal

abbrev pub invariant-qubits : goal.invariant-qubits
invariant-qubits l = l.bytes.items ≡ l.fn.bytes.items ++ words (codes "place") (take l.qubit-index l.qubits)
