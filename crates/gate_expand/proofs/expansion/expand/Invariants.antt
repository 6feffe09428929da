-- The gates and the turn so far are those of the first operations.
use Rattle.std.proofs.Common.{◌≡◌, ◌%◌, take}
use Rattle.std.specs.List.{flat_map, sum_by}
use Rattle.gate_expand.specs.Expansion.{gates_of, op_turn}
use Rattle.gate_expand.proofs.expansion.expand.Given as goal

abbrev pub invariant-ops : goal.invariant-ops
invariant-ops l = record {
  wires : l.body.wires ≡ l.source.wires;
  gates : l.body.gates ≡ flat_map gates_of (take l.op-index l.op-items);
  turn : l.turn ≡ sum_by op_turn (take l.op-index l.op-items) % 8;
}
