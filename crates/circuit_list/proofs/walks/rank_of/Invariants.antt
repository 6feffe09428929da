-- The gates so far are those before the slot, from the first slot below the node on.
use Rattle.circuit_list.proofs.WalkLaws.{Counted}
use Rattle.circuit_list.proofs.walks.rank_of.Given as goal

abbrev pub invariant-up : goal.invariant-up
invariant-up l = Counted l.gates l.nodes l.slot l.count l.node

abbrev pub decreases-up : goal.decreases-up
decreases-up l = l.node
