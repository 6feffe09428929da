use Rattle.std.proofs.Common.{◌∙◌, ◌≤◌, List, Option, sym, ap, arith, length}
use Rattle.circuit_list.specs.declared.Gate.{Gate}
use Rattle.circuit_list.proofs.EntryLaws.{rank_past}
use Rattle.circuit_list.proofs.tree.Tree.rank_to.Goals as goal

pub returns-else-slot-entries : goal.returns-else-slot-entries
returns-else-slot-entries c =
    let past : length c.args.self.now ≤ c.args.slot = omega (arith, c.if-slot-entries.false, ap (λ (xs : List (Option Gate)). length xs) c.entries.ensures.value) in
    c.count.ensures.value ∙ sym (rank_past c.args.self.now c.args.slot past)
