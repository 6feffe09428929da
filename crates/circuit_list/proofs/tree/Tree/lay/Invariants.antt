-- So many slots are laid out again.
use Rattle.circuit_list.proofs.InsertLaws.{IsLaid}
use Rattle.circuit_list.proofs.tree.Tree.lay.Given as goal

abbrev pub invariant-slots : goal.invariant-slots
invariant-slots l = IsLaid l.fn.self l.self l.gates l.low l.high l.slot l.done
