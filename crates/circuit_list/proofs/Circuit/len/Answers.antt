use Rattle.std.proofs.Common.{◌∙◌, ap, length}
use Rattle.circuit_list.specs.Body.{Body}
use Rattle.circuit_list.proofs.EntryLaws.{rank-length}
use Rattle.circuit_list.proofs.Circuit.len.Goals as goal

pub returns : goal.returns
returns c = record { value = c.count.ensures.value ∙ rank-length c.self.inside.tree ∙ ap (λ (b : Body). length b.gates) c.self.view_is }
