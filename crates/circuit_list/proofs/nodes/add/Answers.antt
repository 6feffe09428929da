use Rattle.std.proofs.Common.{◌≡◌, ◌∙◌, ◌/◌, sym, ap, refl, arith, Some}
use Rattle.std.proofs.lemmas.List.{length-set}
use Rattle.circuit_list.specs.Tree.{join, leaf, node_at}
use Rattle.circuit_list.proofs.TreeLaws.{joined-up, lacks-up, node_at-inner}
use Rattle.circuit_list.proofs.nodes.add.Goals as goal

pub up-preserved : goal.up-preserved
up-preserved c =
    let size = length-set c.up.nodes c.up.node c.join.result in
    let here = node_at-inner c.args.gates.now c.up.nodes c.up.node (record { count = 0; wires = 0 }) c.up.invariant.below in
    let new : c.join.result ≡ join (node_at c.args.gates.now c.up.nodes c.up.node) (leaf (Some c.args.gate)) =
    c.join.ensures ∙ (λ i. join (sym here i) ((c.leaf-more.ensures.value ∙ ap leaf c.of.ensures.value) i)) in
    record {
      below = omega (arith, c.up.invariant.below);
      len = omega (arith, c.up.invariant.len);
      joined = joined-up c.args.gates.now c.up.nodes c.up.node (c.up.node / 2) c.join.result c.up-test.true c.up.invariant.below refl
          (new ∙ c.up.invariant.lacks c.up-test.true) c.up.invariant.joined;
      lacks = λ above. lacks-up c.args.gates.now c.up.nodes c.up.node (c.up.node / 2) (Some c.args.gate) c.join.result c.up-test.true c.up.invariant.below refl above new
          (c.up.invariant.joined (c.up.node / 2) above (omega (arith, c.up.invariant.below)) (λ e. omega arith));
    }
