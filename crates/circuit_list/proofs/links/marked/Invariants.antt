-- The slots so far are marked.
use Rattle.circuit_list.specs.Marks.{IsMarkedTo}
use Rattle.circuit_list.proofs.links.marked.Given as goal

abbrev pub invariant-slots : goal.invariant-slots
invariant-slots l = IsMarkedTo l.slot l.gates l.marks.items
