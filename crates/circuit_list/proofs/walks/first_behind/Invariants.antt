-- Behind the slot there is nothing on the wires below the node.
use Rattle.circuit_list.proofs.WalkLaws.{Ahead}
use Rattle.circuit_list.proofs.walks.first_behind.Given as goal

abbrev pub invariant-up : goal.invariant-up
invariant-up l = Ahead l.wires l.gates l.nodes l.slot l.node

abbrev pub decreases-up : goal.decreases-up
decreases-up l = l.node
