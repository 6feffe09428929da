use Rattle.std.proofs.Common.{◌≡◌, take}
use Rattle.spare_layers.proofs.pass.circuit_of.Given as goal

abbrev pub invariant-pushed : goal.invariant-pushed
invariant-pushed l = record {
  wires : l.body.wires ≡ l.wires;
  gates : l.body.gates ≡ take l.g-index l.list;
}
