use Rattle.std.proofs.Common.{◌≡◌, ◌+◌, ◌-◌, ◌/◌, ◌∙◌, sym, ap, subst, arith}
use Rattle.circuit_list.specs.declared.nodes.Node.{Node}
use Rattle.circuit_list.specs.Tree.{node_at}
use Rattle.circuit_list.proofs.WalkLaws.{Counted, counted-begin, counted-end, counted-few, counted-left, counted-right}
use Rattle.circuit_list.proofs.walks.rank_of.Goals.{then-node-eq1, else-node-eq1}
use Rattle.circuit_list.proofs.walks.rank_of.Goals as goal

pub up-init : goal.up-init
up-init c = counted-begin c.requires.tree.0 c.args.gates.now c.args.nodes.now c.args.slot c.requires.tree.1 c.requires.within

pub overflow_add-count : goal.overflow_add-count
overflow_add-count c =
    let few = counted-few c.args.gates.now c.args.nodes.now c.args.slot c.up.count c.up.node (c.up.node / 2) (omega arith) c.requires.tree.1.joined c.up-test.true (omega arith) c.up.invariant in
    let same = ap (λ (n : Node). n.count) c.node_at-count.ensures.value in
    omega arith

pub up-preserved : goal.up-preserved
up-preserved c = elim c.if-node-eq1.branch [
  | then-node-eq1 w ↦
      let odd = w.if-node-eq1.true in
      let same : c.up.count + (node_at c.args.gates.now c.args.nodes.now (c.up.node - 1)).count ≡ c.if-node-eq1.count =
      ap (λ (n : Node). c.up.count + n.count) (sym w.node_at-count.ensures.value) ∙ sym w.count-is in
      subst (λ n. Counted c.args.gates.now c.args.nodes.now c.args.slot n (c.up.node / 2)) same
      (counted-right c.args.gates.now c.args.nodes.now c.args.slot c.up.count c.up.node (c.up.node / 2) (omega arith) c.requires.tree.1.joined c.up-test.true (omega arith) c.up.invariant)
  | else-node-eq1 w ↦
      let even = w.if-node-eq1.false in
      subst (λ n. Counted c.args.gates.now c.args.nodes.now c.args.slot n (c.up.node / 2)) (sym w.count-is)
      (counted-left c.args.gates.now c.args.nodes.now c.args.slot c.up.count c.up.node (c.up.node / 2) c.up-test.true (omega arith) c.up.invariant)
]

pub returns : goal.returns
returns c = record { value = counted-end c.args.gates.now c.args.nodes.now c.args.slot c.up.count c.up.node (omega arith) c.up.invariant }
