use Rattle.std.proofs.Common.{◌≤◌, ◌+◌, ◌-◌, length}
use Rattle.matroid_partition.specs.Searches.{IsFrontOf}
use Rattle.matroid_partition.proofs.partitioning.Partitioning.walk.Given as goal

abbrev pub invariant-nodes : goal.invariant-nodes
invariant-nodes l = record {
  front : IsFrontOf l.self l.new l.front l.node 0;
  below : l.node ≤ length l.front.nodes.items;
}

abbrev pub decreases-nodes : goal.decreases-nodes
decreases-nodes l = length l.self.homes + 1 - l.node
