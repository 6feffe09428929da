use Rattle.std.proofs.Common.{◌≡◌, length}
use Rattle.test_circuits.proofs.random.Random.circuit.Given as goal

abbrev pub invariant-gates : goal.invariant-gates
invariant-gates l = record {
  wires : l.body.wires ≡ l.fn.wires;
  count : length l.body.gates ≡ l._i;
}
