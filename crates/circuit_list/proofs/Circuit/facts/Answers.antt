use Rattle.std.proofs.Common.{◌≡◌, subst, length}
use Rattle.circuit_list.specs.Body.{Body}
use Rattle.circuit_list.specs.Slots.{Ascend}
use Rattle.circuit_list.proofs.EntryLaws.{length-slots_from, slots_from-ascend}
use Rattle.circuit_list.proofs.Circuit.facts.Goals as goal

pub returns-clause-slots : goal.returns-clause-slots
returns-clause-slots c = subst (λ (b : Body). length b.slots ≡ length b.gates) c.self.view_is (length-slots_from 0 c.self.inside.tree)

pub returns-clause-ascend : goal.returns-clause-ascend
returns-clause-ascend c = subst (λ (b : Body). Ascend b.slots) c.self.view_is (slots_from-ascend 0 c.self.inside.tree)
