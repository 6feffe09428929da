use Rattle.std.proofs.Common.{◌-◌, arith}
use Rattle.std.proofs.lemmas.List.{length-set}
use Rattle.circuit_list.proofs.TreeLaws.{joined-down}
use Rattle.circuit_list.proofs.nodes.tell.Goals as goal

pub down-preserved : goal.down-preserved
down-preserved c =
    let size = length-set c.down.nodes (c.down.node - 1) c.joined.result in
    record {
      len = omega (arith, c.down.invariant.len);
      below = omega (arith, c.down.invariant.below);
      joined = joined-down c.args.gates.now c.down.nodes (c.down.node - 1) c.joined.result (omega arith) (omega (arith, c.down.invariant.below)) c.joined.ensures
          (λ j lt. c.down.invariant.joined j (omega arith));
    }
