use Rattle.std.proofs.Common.{◌<◌, ap, subst, arith, length, set, List, Option, IfSome, None}
use Rattle.std.proofs.lemmas.List.{get_or_read, length-set}
use Rattle.circuit_list.specs.declared.Gate.{Gate}
use Rattle.circuit_list.specs.Links.{IsLinks}
use Rattle.circuit_list.specs.Tree.{leaf}
use Rattle.circuit_list.proofs.CountLaws.{rank-set, rank_there}
use Rattle.circuit_list.proofs.EntryLaws.{rank_le}
use Rattle.circuit_list.proofs.tree.Tree.set.Goals as goal

pub recounted-self-inside-requires-clause-there : goal.recounted-self-inside-requires-clause-there
recounted-self-inside-requires-clause-there c =
    let es = c.self.inside.gates.items in
    let within : c.args.slot < length es = omega (arith, c.requires.within, ap (λ (xs : List (Option Gate)). length xs) c.self.view_is) in
    let here = ap (λ (o : Option Gate). (leaf o).count) (get_or_read es _ _ within c.index-before.ensures None) in
    let low = rank_there es c.args.slot in
    omega (arith, c.self.invariant.0)

pub recounted-self-inside-requires-clause-count_limit : goal.recounted-self-inside-requires-clause-count_limit
recounted-self-inside-requires-clause-count_limit c =
    let es = c.self.inside.gates.items in
    let within : c.args.slot < length es = omega (arith, c.requires.within, ap (λ (xs : List (Option Gate)). length xs) c.self.view_is) in
    let here = ap (λ (o : Option Gate). (leaf o).count) (get_or_read es _ _ within c.index-before.ensures None) in
    let changed = rank-set es c.args.slot c.of-entry.result within in
    let few = rank_le (set es c.args.slot c.of-entry.result) (length (set es c.args.slot c.of-entry.result)) in
    let size = length-set es c.args.slot c.of-entry.result in
    omega (arith, c.self.invariant.0, c.len-slots.ensures)

pub invariant_of-self : goal.invariant_of-self
invariant_of-self c =
    let es = c.self.inside.gates.items in
    let within : c.args.slot < length es = omega (arith, c.requires.within, ap (λ (xs : List (Option Gate)). length xs) c.self.view_is) in
    let here = ap (λ (o : Option Gate). (leaf o).count) (get_or_read es _ _ within c.index-before.ensures None) in
    let changed = rank-set es c.args.slot c.of-entry.result within in (
      omega (arith, c.self.invariant.0, c.recounted-self-inside.ensures),
      subst (λ (xs : List (Option Gate)). IfSome c.link_anew.new.links (IsLinks xs)) c.deref.ensures.value c.link_anew.ensures.linked,
    )
