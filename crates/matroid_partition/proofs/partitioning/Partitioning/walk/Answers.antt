use Rattle.std.proofs.Common.{◌≤◌, length, arith}
use Rattle.matroid_partition.specs.Arrangements.{rows_with}
use Rattle.matroid_partition.specs.Searches.{trues}
use Rattle.matroid_partition.proofs.SearchLaws.{front-start, trues-most}
use Rattle.matroid_partition.proofs.partitioning.Partitioning.walk.Goals as goal

pub nodes-init : goal.nodes-init
nodes-init c = record {
  front = front-start (rows_with c.args.self.now c.args.new.now) c.args.self.now.homes c.args.self.now.blocks c.args.front.now.nodes.items c.args.front.now.seen.items c.requires.start;
  below = omega arith;
}

pub nodes-smaller : goal.nodes-smaller
nodes-smaller c =
    let m : trues c.nodes.front.seen.items ≤ length c.nodes.front.seen.items = trues-most c.nodes.front.seen.items in
    omega (arith, c.nodes.invariant.front.long, c.nodes.invariant.front.count)
