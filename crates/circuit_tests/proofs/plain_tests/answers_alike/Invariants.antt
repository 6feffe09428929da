use Rattle.std.proofs.Common.{◌≡◌}
use Rattle.circuit_tests.proofs.plain_tests.answers_alike.Given as goal

abbrev pub invariant-steps : goal.invariant-steps
invariant-steps l = l.circuit.wires ≡ 256
