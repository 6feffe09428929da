use Rattle.std.proofs.Common.{◌≡◌, take}
use Rattle.test_circuits.proofs.gates.circuit_of.Given as goal

abbrev pub invariant-gates : goal.invariant-gates
invariant-gates l = record {
  wires : l.body.wires ≡ l.fn.wires;
  gates : l.body.gates ≡ take l.gate-index l.gates;
}
