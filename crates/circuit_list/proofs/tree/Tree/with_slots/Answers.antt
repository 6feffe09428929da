use Rattle.circuit_list.proofs.InsertLaws.{no_gates}
use Rattle.circuit_list.proofs.tree.Tree.with_slots.Goals as goal

pub invariant_of-result : goal.invariant_of-result
invariant_of-result c = (no_gates c.resize.new.self.items c.new-gates.result.items _ _ c.of.result c.new-gates.ensures.items c.of.ensures.value c.in_ok-resize.ensures.items, tt)
