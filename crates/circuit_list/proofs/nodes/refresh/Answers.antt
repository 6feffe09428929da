use Rattle.std.proofs.Common.{refl, arith}
use Rattle.std.proofs.Common.{◌/◌}
use Rattle.std.proofs.lemmas.List.{length-set}
use Rattle.circuit_list.proofs.TreeLaws.{joined-up}
use Rattle.circuit_list.proofs.nodes.refresh.Goals as goal

pub up-preserved : goal.up-preserved
up-preserved c =
    let size = length-set c.up.nodes (c.up.node / 2) c.joined.result in
    record {
      there = omega arith;
      below = omega (arith, c.up.invariant.below);
      joined = joined-up c.args.gates.now c.up.nodes (c.up.node / 2) (c.up.node / 2 / 2) c.joined.result (omega arith) (omega (arith, c.up.invariant.below)) refl c.joined.ensures c.up.invariant.joined;
    }
