use Rattle.std.proofs.Common.{◌≡◌, ◌∙◌, ◌≤◌, ◌+◌, ◌-◌, ◌*◌, ◌/◌, ◌==◌, ◌&&◌, ℕ, cond, true, sym, ap, subst, arith, length, List, [], ◌∷◌, Option, Some}
use Rattle.std.proofs.lemmas.List.{length-append}
use Rattle.circuit_list.specs.declared.Gate.{Gate}
use Rattle.circuit_list.specs.declared.nodes.Node.{Node}
use Rattle.circuit_list.specs.Entries.{entry}
use Rattle.circuit_list.specs.Marks.{IsMarked, is_marked}
use Rattle.circuit_list.specs.Tree.{meets, wire_bit}
use Rattle.circuit_list.proofs.EntryLaws.{entry-past, entry-push, entry-pushed}
use Rattle.circuit_list.proofs.MarkLaws.{IsMarked-push}
use Rattle.circuit_list.proofs.TreeLaws.{IsTree-written, joined_written, lacks_written}
use Rattle.circuit_list.proofs.links.Links.push.Goals as goal

pub add-requires-clause-others : goal.add-requires-clause-others
add-requires-clause-others c =
    let es = c.requires.0 in
    let same = c.requires.1.1 in
    let long = ap (λ (xs : List (Option Gate)). length xs) same in
    let more = length-append es (Some c.args.gate ∷ []) in
    let len : length es ≡ length c.args.gates.now - 1 = omega arith in
    joined_written c.args.self.now.height es c.args.gates.now c.args.self.now.nodes.items c.deref_mut.result.now (length c.args.gates.now - 1) c.requires.1.0.links.tree
    (λ s n. ap (λ (xs : List (Option Gate)). entry xs s) same ∙ entry-push es (Some c.args.gate) s (λ h. n (h ∙ len))) c.deref_mut.ensures.value

pub add-requires-clause-lacks : goal.add-requires-clause-lacks
add-requires-clause-lacks c =
    let es = c.requires.0 in
    let same = c.requires.1.1 in
    let long = ap (λ (xs : List (Option Gate)). length xs) same in
    let more = length-append es (Some c.args.gate ∷ []) in
    let len : length es ≡ length c.args.gates.now - 1 = omega arith in
    lacks_written c.args.self.now.height es c.args.gates.now c.args.self.now.nodes.items c.deref_mut.result.now (length c.args.gates.now - 1) c.args.gate c.requires.1.0.links.tree
    (λ s n. ap (λ (xs : List (Option Gate)). entry xs s) same ∙ entry-push es (Some c.args.gate) s (λ h. n (h ∙ len)))
    (entry-past es (length c.args.gates.now - 1) (omega arith))
    (ap (λ (xs : List (Option Gate)). entry xs (length c.args.gates.now - 1)) same ∙ ap (entry _) (sym len) ∙ entry-pushed es (Some c.args.gate))
    c.deref_mut.ensures.value (omega (arith, c.requires.1.0.nodes))

pub returns : goal.returns
returns c =
    let es = c.requires.0 in
    let same = c.requires.1.1 in
    let long = ap (λ (xs : List (Option Gate)). length xs) same in
    let more = length-append es (Some c.args.gate ∷ []) in
    let len : length c.args.gates.now - 1 ≡ length es = omega arith in
    let value = ap (λ (xs : List Node). length xs) c.deref_mut.ensures.value in
    let written : length c.add.new.nodes ≡ length c.deref_mut.result.now = c.add.auto.nodes in
    let few : length c.args.gates.now ≤ length c.args.self.now.nodes.items = omega (arith, c.requires.1.0.nodes) in
    let marks : (w s : ℕ) → is_marked w c.put_marks.new.marks.items s ≡ cond ((s == length c.args.gates.now - 1) && meets (wire_bit w) (Some c.args.gate)) true (is_marked w c.args.self.now.marks.items s) =
    λ w s. c.put_marks.ensures.marks w s
    ∙ ap (λ (e : Option Gate). cond ((s == length c.args.gates.now - 1) && meets (wire_bit w) e) true (is_marked w c.args.self.now.marks.items s)) c.of.ensures.value in
    record {
      tree = IsTree-written c.args.self.now.height c.args.self.now.nodes.len es c.args.gates.now c.args.self.now.nodes.items c.add.new.nodes c.requires.1.0.links.tree
          (written ∙ value) (sym c.deref_mut.ensures.len ∙ value) few (λ j pos lt. c.add.ensures.new j pos (omega (arith, written)));
      marked = subst (λ (xs : List (Option Gate)). IsMarked xs c.put_marks.new.marks.items) (sym same)
          (IsMarked-push es c.args.self.now.marks.items c.put_marks.new.marks.items (length c.args.gates.now - 1) (Some c.args.gate) len c.requires.1.0.links.marked
          (subst (λ n. n / 64 * 64 + 64 ≤ length c.args.self.now.marks.items) (sym len) c.requires.1.0.marks) c.put_marks.ensures.len marks);
    }
