-- The slot stands below the node, behind the rest of the gates.
use Rattle.std.proofs.Common.{◌*◌, ◌-◌, length}
use Rattle.circuit_list.proofs.WalkLaws.{Placed}
use Rattle.circuit_list.proofs.walks.slot_at.Given as goal

abbrev pub invariant-down : goal.invariant-down
invariant-down l = Placed l.gates l.nodes l.place l.rest l.node

abbrev pub decreases-down : goal.decreases-down
decreases-down l = 2 * length l.nodes - l.node
