use Rattle.std.proofs.Common.{◌≡◌, ◌∙◌, ◌+◌, ◌^◌, ◌/◌, false, sym, ap, arith}
use Rattle.circuit_list.specs.declared.nodes.Node.{Node}
use Rattle.circuit_list.specs.Tree.{has_any, node_at}
use Rattle.circuit_list.proofs.WalkLaws.{ahead-begin, ahead_beside, ahead-left, ahead-right, ahead-found, ahead-end}
use Rattle.circuit_list.proofs.walks.first_behind.Goals.{else-node-eq0-via-then-node-eq0+else-has_any, else-node-eq0-via-else-node-eq0}
use Rattle.circuit_list.proofs.walks.first_behind.Goals as goal

pub up-init : goal.up-init
up-init c = ahead-begin c.args.wires c.requires.tree.0 c.args.gates.now c.args.nodes.now c.args.slot c.requires.tree.1 c.requires.within

pub first_in-requires-clause-covers : goal.first_in-requires-clause-covers
first_in-requires-clause-covers c = (
  c.up.invariant.h,
  c.up.invariant.lo + 2 ^ c.up.invariant.h,
  ahead_beside c.args.wires c.args.gates.now c.args.nodes.now c.args.slot c.up.node (c.up.node / 2) c.requires.tree.1.joined c.up-test.true (omega arith) c.up.invariant,
)

pub returns-then-has_any : goal.returns-then-has_any
returns-then-has_any c = record {
  found =
      ahead-found c.args.wires c.args.gates.now c.args.nodes.now c.args.slot c.up.node c.first_in.result c.up.invariant
      (c.first_in.ensures c.up.invariant.h (c.up.invariant.lo + 2 ^ c.up.invariant.h)
      (ahead_beside c.args.wires c.args.gates.now c.args.nodes.now c.args.slot c.up.node (c.up.node / 2) c.requires.tree.1.joined c.up-test.true (omega arith) c.up.invariant));
}

pub up-preserved : goal.up-preserved
up-preserved c = elim c.else-node-eq0.branch [
  | else-node-eq0-via-then-node-eq0+else-has_any w ↦
      let even = w.if-node-eq0.true in
      let lacks : has_any c.args.wires (node_at c.args.gates.now c.args.nodes.now (c.up.node + 1)).wires ≡ false =
      ap (λ (n : Node). has_any c.args.wires n.wires) (sym w.node_at.ensures.value) ∙ sym w.has_any.ensures.value ∙ w.if-has_any.false in
      ahead-left c.args.wires c.args.gates.now c.args.nodes.now c.args.slot c.up.node (c.up.node / 2) c.requires.tree.1.joined c.up-test.true (omega arith) lacks c.up.invariant
  | else-node-eq0-via-else-node-eq0 w ↦
      let odd = w.if-node-eq0.false in
      ahead-right c.args.wires c.args.gates.now c.args.nodes.now c.args.slot c.up.node (c.up.node / 2) c.up-test.true (omega arith) c.up.invariant
]

pub returns : goal.returns
returns c = record { found = ahead-end c.args.wires c.args.gates.now c.args.nodes.now c.args.slot c.up.node (omega arith) c.up.invariant }
