use Rattle.std.proofs.Common.{◌<◌, length}
use Rattle.matroid_partition.specs.Searches.{IsFrontOf}
use Rattle.matroid_partition.proofs.partitioning.Partitioning.spread.Given as goal

abbrev pub invariant-numbers : goal.invariant-numbers
invariant-numbers l = record {
  front : IsFrontOf l.self l.new l.front l.node l.number;
  there : l.node < length l.front.nodes.items;
}
