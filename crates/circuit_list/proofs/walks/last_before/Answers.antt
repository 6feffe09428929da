use Rattle.std.proofs.Common.{◌≡◌, ◌∙◌, ◌-◌, ◌^◌, ◌/◌, false, sym, ap, arith}
use Rattle.circuit_list.specs.declared.nodes.Node.{Node}
use Rattle.circuit_list.specs.Tree.{has_any, node_at}
use Rattle.circuit_list.proofs.WalkLaws.{back-begin, back-left, back-right, back-found, back-end, beside}
use Rattle.circuit_list.proofs.walks.last_before.Goals.{else-node-eq1-via-then-node-eq1+else-has_any, else-node-eq1-via-else-node-eq1}
use Rattle.circuit_list.proofs.walks.last_before.Goals as goal

pub up-init : goal.up-init
up-init c = back-begin c.args.wires c.requires.tree.0 c.args.gates.now c.args.nodes.now c.args.slot c.requires.tree.1 c.requires.within

pub last_in-requires-clause-covers : goal.last_in-requires-clause-covers
last_in-requires-clause-covers c =
    let b = beside c.args.gates.now c.args.nodes.now c.up.invariant.h c.up.node (c.up.node / 2) c.up.invariant.lo c.requires.tree.1.joined c.up-test.true (omega arith) c.up.invariant.spans in
    (c.up.invariant.h, c.up.invariant.lo - 2 ^ c.up.invariant.h, b.covers)

pub returns-then-has_any : goal.returns-then-has_any
returns-then-has_any c = record {
  found =
      let b = beside c.args.gates.now c.args.nodes.now c.up.invariant.h c.up.node (c.up.node / 2) c.up.invariant.lo c.requires.tree.1.joined c.up-test.true (omega arith) c.up.invariant.spans in
      back-found c.args.wires c.args.gates.now c.args.nodes.now c.args.slot c.up.node c.last_in.result c.up.invariant b.room
      (c.last_in.ensures c.up.invariant.h (c.up.invariant.lo - 2 ^ c.up.invariant.h) b.covers);
}

pub up-preserved : goal.up-preserved
up-preserved c = elim c.else-node-eq1.branch [
  | else-node-eq1-via-then-node-eq1+else-has_any w ↦
      let odd = w.if-node-eq1.true in
      let lacks : has_any c.args.wires (node_at c.args.gates.now c.args.nodes.now (c.up.node - 1)).wires ≡ false =
      ap (λ (n : Node). has_any c.args.wires n.wires) (sym w.node_at.ensures.value) ∙ sym w.has_any.ensures.value ∙ w.if-has_any.false in
      back-right c.args.wires c.args.gates.now c.args.nodes.now c.args.slot c.up.node (c.up.node / 2) c.requires.tree.1.joined c.up-test.true (omega arith) lacks c.up.invariant
  | else-node-eq1-via-else-node-eq1 w ↦
      let even = w.if-node-eq1.false in
      back-left c.args.wires c.args.gates.now c.args.nodes.now c.args.slot c.up.node (c.up.node / 2) c.up-test.true (omega arith) c.up.invariant
]

pub returns : goal.returns
returns c = record { found = back-end c.args.wires c.args.gates.now c.args.nodes.now c.args.slot c.up.node (omega arith) c.up.invariant }
