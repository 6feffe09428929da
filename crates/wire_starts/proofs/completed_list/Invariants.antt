-- The list, and behind it those of the first qubits that aren't in it.
use Rattle.std.proofs.Common.{◌≡◌}
use Rattle.wire_starts.specs.Starts.{completed}
use Rattle.wire_starts.proofs.completed_list.Given as goal

abbrev pub invariant-qubits : goal.invariant-qubits
invariant-qubits l = l.qubits.items ≡ completed l.qubit-counter l.list
