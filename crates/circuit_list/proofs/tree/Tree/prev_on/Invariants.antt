-- No gate before the slot is on the wire as far as the walk has come.
use Rattle.std.proofs.Common.{◌<◌, ◌≤◌, length}
use Rattle.circuit_list.specs.OnWire.{NoGateOn}
use Rattle.circuit_list.proofs.tree.Tree.prev_on.Given as goal

abbrev pub invariant-marked : goal.invariant-marked
invariant-marked l = record {
  there : l.first < length l.self;
  to : l.first ≤ l.slot;
  none : NoGateOn l.wire l.self l.first l.slot;
}

abbrev pub decreases-marked : goal.decreases-marked
decreases-marked l = l.first
