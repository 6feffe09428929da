use Rattle.std.proofs.Common.{◌≡◌, ◌∙◌, ◌+◌, ◌-◌, ◌*◌, true, false, refl, sym, ap, arith, subst}
use Rattle.circuit_list.specs.declared.nodes.Node.{Node}
use Rattle.circuit_list.specs.Tree.{has_any, node_at}
use Rattle.circuit_list.proofs.TreeLaws.{covers-positive}
use Rattle.circuit_list.proofs.WalkLaws.{Last, last-begin, last-right, last-past, last-end}
use Rattle.circuit_list.proofs.walks.last_in.Goals as goal

pub down-init : goal.down-init
down-init c = last-begin c.args.wires c.args.gates.now c.args.nodes.now c.args.top c.requires.covers.0 c.requires.covers.1 c.requires.covers.2 c.requires.on

pub down-smaller-then-not-has_any : goal.down-smaller-then-not-has_any
down-smaller-then-not-has_any c =
    let positive = (covers-positive c.args.gates.now c.args.nodes.now c.down.invariant.h c.down.node c.down.invariant.lo c.down.invariant.covers).0 in
    omega arith

pub down-preserved-then-not-has_any : goal.down-preserved-then-not-has_any
down-preserved-then-not-has_any c =
    let lacks : has_any c.args.wires (node_at c.args.gates.now c.args.nodes.now (2 * c.down.node + 1)).wires ≡ false =
    ap (λ (n : Node). has_any c.args.wires n.wires) (sym c.node_at.ensures.value) ∙ sym c.has_any.ensures.value ∙ c.if-not-has_any.true in
    let same : 2 * c.down.node ≡ 2 * c.down.node + 1 - 1 = omega arith in
    subst (Last c.args.wires c.args.gates.now c.args.nodes.now c.args.top) same
    (last-past c.args.wires c.args.gates.now c.args.nodes.now c.args.top c.down.node c.down-test.true lacks c.down.invariant)

pub down-preserved : goal.down-preserved
down-preserved c =
    let has : has_any c.args.wires (node_at c.args.gates.now c.args.nodes.now (2 * c.down.node + 1)).wires ≡ true =
    ap (λ (n : Node). has_any c.args.wires n.wires) (sym c.node_at.ensures.value) ∙ sym c.has_any.ensures.value ∙ c.if-not-has_any.false in
    last-right c.args.wires c.args.gates.now c.args.nodes.now c.args.top c.down.node c.down-test.true has c.down.invariant

pub returns : goal.returns
returns c = last-end c.args.wires c.args.gates.now c.args.nodes.now c.args.top c.down.node _ (omega arith) refl c.down.invariant
