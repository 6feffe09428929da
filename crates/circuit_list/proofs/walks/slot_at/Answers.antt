use Rattle.std.proofs.Common.{◌≡◌, ◌*◌, ◌+◌, ◌-◌, refl, sym, ap, subst, arith}
use Rattle.circuit_list.specs.declared.nodes.Node.{Node}
use Rattle.circuit_list.specs.Tree.{node_at}
use Rattle.circuit_list.proofs.TreeLaws.{covers-positive}
use Rattle.circuit_list.proofs.WalkLaws.{Placed, placed-begin, placed-left, placed-right, placed-end}
use Rattle.circuit_list.proofs.walks.slot_at.Goals as goal

pub down-init : goal.down-init
down-init c = placed-begin c.requires.tree.0 c.args.gates.now c.args.nodes.now c.args.place c.requires.tree.1 c.requires.there

pub down-smaller : goal.down-smaller
down-smaller c =
    let positive = (covers-positive c.args.gates.now c.args.nodes.now c.down.invariant.h c.down.node c.down.invariant.lo c.down.invariant.covers).0 in
    omega arith

pub down-preserved-then-rest-count : goal.down-preserved-then-rest-count
down-preserved-then-rest-count c =
    let count : (node_at c.args.gates.now c.args.nodes.now (2 * c.down.node)).count ≡ c.node_at-count.result.count = ap (λ (n : Node). n.count) (sym c.node_at-count.ensures.value) in
    subst (λ n. Placed c.args.gates.now c.args.nodes.now c.args.place (c.down.rest - n) (2 * c.down.node + 1)) count
    (placed-right c.args.gates.now c.args.nodes.now c.args.place c.down.rest c.down.node (omega arith) c.down-test.true (omega arith) c.down.invariant)

pub down-preserved : goal.down-preserved
down-preserved c =
    let count = ap (λ (n : Node). n.count) (sym c.node_at-count.ensures.value) in
    placed-left c.args.gates.now c.args.nodes.now c.args.place c.down.rest c.down.node c.down-test.true (omega arith) c.down.invariant

pub returns-clause-live : goal.returns-clause-live
returns-clause-live c = (placed-end c.args.gates.now c.args.nodes.now c.args.place c.down.rest c.down.node _ (omega arith) refl c.down.invariant).0

pub returns-clause-rank : goal.returns-clause-rank
returns-clause-rank c = (placed-end c.args.gates.now c.args.nodes.now c.args.place c.down.rest c.down.node _ (omega arith) refl c.down.invariant).1
