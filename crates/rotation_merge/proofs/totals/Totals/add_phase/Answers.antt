-- The label is noted behind the others.
use Rattle.std.proofs.Common.{◌≡◌, ◌+◌, ◌%◌, ℕ, List, ◌∷◌, [], ◌++◌, Some, refl, sym, subst, ◌∙◌, ap}
use Rattle.path_parity.specs.Sets.{label_of}
use Rattle.rotation_merge.specs.Merging.{signed_phase}
use Rattle.rotation_merge.specs.declared.totals.Note.{Note}
use Rattle.rotation_merge.specs.Sums.{AreNoted, ChangesTotal, rows, total_in}
use Rattle.rotation_merge.proofs.NoteLaws.{noted-more, noted-push}
use Rattle.rotation_merge.proofs.totals.Totals.add_phase.Goals as goal

pub returns-clause-total : goal.returns-clause-total
returns-clause-total c =
    let old = c.args.self.now in
    let set = c.args.label.now.set.items in
    let at_set : ChangesTotal old c.add.new.self set ((total_in old set + c.signed.result) % 8) =
    subst (λ (z : List ℕ). ChangesTotal old c.add.new.self z ((total_in old z + c.signed.result) % 8)) c.deref.ensures.value c.in_ok-number.ensures.total in
    let h : ChangesTotal old c.add.new.self set ((total_in old set + signed_phase (label_of c.args.label.now) c.args.k) % 8) =
    subst (λ k. ChangesTotal old c.add.new.self set ((total_in old set + k) % 8)) c.signed.ensures at_set in
    record { here = h.here; others = h.others }

pub returns-clause-noted : goal.returns-clause-noted
returns-clause-noted c = λ ls packed h.
    let old = c.args.self.now in
    let new = c.add.new.self in
    let l = c.args.label.now in
    let note : Note = record { number = c.in_ok-number.number; bit = l.bit } in
    let more = c.in_ok-number.ensures.rows in
    let notes : c.push.new.self.items ≡ old.notes.items ++ note ∷ [] = c.in_ok-push.ensures.items ∙ (λ i. (c.in_ok-number.ensures.notes i).items ++ note ∷ []) in
    let kept : AreNoted (rows new) old.notes.items ls = subst (λ rs. AreNoted rs old.notes.items ls) (sym more.1) (noted-more (rows old) more.0 old.notes.items ls h) in
    subst (λ ns. AreNoted (rows new) ns (ls ++ label_of l ∷ [])) (sym notes)
    (noted-push (rows new) old.notes.items ls note (label_of l)
    (record { row = l.set.items; there = c.in_ok-number.ensures.number ∙ ap (λ (z : List ℕ). Some z) c.deref.ensures.value; packed = packed; noted = refl }) kept)
