use Rattle.std.proofs.Common.{◌∙◌, ap, List, Option, None}
use Rattle.std.proofs.lemmas.List.{get_or-set_other}
use Rattle.circuit_list.specs.declared.Gate.{Gate}
use Rattle.circuit_list.specs.Entries.{entry}
use Rattle.circuit_list.proofs.TreeLaws.{joined_written}
use Rattle.circuit_list.proofs.links.Links.set.Goals as goal

pub refresh-requires-clause-others : goal.refresh-requires-clause-others
refresh-requires-clause-others c =
    let es = c.requires.changed.0 in
    joined_written c.args.self.now.height es c.args.gates.now c.args.self.now.nodes.items c.deref_mut.result.now c.args.slot c.requires.changed.1.0.tree
    (λ s n. ap (λ (xs : List (Option Gate)). entry xs s) c.requires.changed.1.1.1 ∙ get_or-set_other es c.args.slot s c.args.after None n) c.deref_mut.ensures.value
