-- The slot stands below the node, and nothing on the wires stands behind that below the top.
use Rattle.std.proofs.Common.{◌*◌, ◌-◌, length}
use Rattle.circuit_list.proofs.WalkLaws.{Last}
use Rattle.circuit_list.proofs.walks.last_in.Given as goal

abbrev pub invariant-down : goal.invariant-down
invariant-down l = Last l.wires l.gates l.nodes l.top l.node

abbrev pub decreases-down : goal.decreases-down
decreases-down l = 2 * length l.nodes - l.node
