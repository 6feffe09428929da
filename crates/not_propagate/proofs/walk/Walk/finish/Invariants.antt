-- The X of the first wires are written.
use Rattle.std.proofs.Common.{◌≡◌, ◌++◌, take}
use Rattle.not_propagate.specs.Walks.{waiting}
use Rattle.not_propagate.proofs.walk.Walk.finish.Given as goal

abbrev pub invariant-wires : goal.invariant-wires
invariant-wires l = record {
  wires : l.written.wires ≡ l.fn.self.written.wires;
  gates : l.written.gates ≡ l.fn.self.written.gates ++ waiting (take l.q l.flags.items);
}
