-- The nodes are two to the height.
use Rattle.std.proofs.Common.{◌≡◌, ◌^◌, ◌-◌, length}
use Rattle.circuit_list.proofs.links.planted.Given as goal

abbrev pub invariant-higher : goal.invariant-higher
invariant-higher l = length l.nodes.items ≡ 2 ^ l.height

abbrev pub decreases-higher : goal.decreases-higher
decreases-higher l = length l.gates - length l.nodes.items
