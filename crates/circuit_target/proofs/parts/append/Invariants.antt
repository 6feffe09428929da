-- The first gates are put behind the others.
use Rattle.std.proofs.Common.{◌≡◌, ◌++◌, take}
use Rattle.circuit_target.proofs.parts.append.Given as goal

abbrev pub invariant-places : goal.invariant-places
invariant-places l = record {
  wires : l.body.wires ≡ l.initial.body.wires;
  gates : l.body.gates ≡ l.initial.body.gates ++ take l.place l.part.gates;
}
