-- A row that is there has more, and another one comes in.
use Rattle.std.proofs.Common.{◌≡◌, ◌+◌, ◌*◌, ◌%◌, ◌<◌, ℕ, List, [], ◌∷◌, sym, subst, ap, ◌∙◌, arith}
use Rattle.std.specs.Prelude.{unwrap_or}
use Rattle.std.specs.Map.{lookup, set_value}
use Rattle.indexmap.specs.IndexMap.{insert_entry}
use Rattle.path_parity.specs.Sets.{set_of}
use Rattle.path_sums.specs.Sums.{Adds, AddsKnown, AreTotals, Collected, IsCompact, compact_set, sums_of}
use Rattle.path_sums.proofs.CollectLaws.{AreTotals-insert, AreTotals-known, Adds-insert, Adds-known, is_row, same_row}
use Rattle.path_sums.proofs.SparseLaws.{compact_set-compact}
use Rattle.path_sums.proofs.sums.Totals.add.Goals as goal

pub invariant_of-self : goal.invariant_of-self
invariant_of-self c =
    let es = c.self.inside.sets.entries in
    let known : AddsKnown c.deref.result.now c.signed-k.result es c.add_known.new.sets.entries = c.add_known.ensures.known c.if-add_known.true in
    let below : (known.had % 8 + c.signed-k.result) % 8 < 8 = omega arith in
    subst AreTotals (sym known.becomes) (AreTotals-known es c.deref.result.now ((known.had % 8 + c.signed-k.result) % 8) c.self.invariant below)

pub returns-then-add_known : goal.returns-then-add_known
returns-then-add_known c =
    let es = c.self.inside.sets.entries in
    let row : List ℕ = c.deref.result.now in
    let set : compact_set row ≡ set_of c.args.set.now = ap compact_set (c.deref.ensures.value ∙ c.in_ok-row.ensures) ∙ compact_set-compact c.args.set.now c.requires in
    let known : AddsKnown row c.signed-k.result es c.add_known.new.sets.entries = c.add_known.ensures.known c.if-add_known.true in
    let was : Collected = record { sets = sums_of es; constant = c.self.inside.constant } in
    subst (λ (old : Collected). Adds c.args.sign ((set_of c.args.set.now, c.args.k) ∷ []) 0 old (record { sets = sums_of c.add_known.new.sets.entries; constant = c.self.inside.constant })) c.self.view_is
    (subst (λ fs. Adds c.args.sign ((set_of c.args.set.now, c.args.k) ∷ []) 0 was (record { sets = sums_of fs; constant = c.self.inside.constant })) (sym known.becomes)
    (subst (λ m. Adds c.args.sign ((m, c.args.k) ∷ []) 0 was (record { sets = sums_of (set_value (is_row row) es ((known.had % 8 + c.signed-k.result) % 8)); constant = c.self.inside.constant })) set
    (Adds-known c.args.sign c.args.k c.self.inside.constant es row known.had ((known.had % 8 + c.signed-k.result) % 8) known.there
    (ap (λ k. (known.had % 8 + k) % 8) c.signed-k.ensures.value))))

pub invariant_of-self-2 : goal.invariant_of-self-2
invariant_of-self-2 c =
    let es = c.self.inside.sets.entries in
    let row = c.in_ok-row.row in
    let grown : c.insert.new.self.entries ≡ insert_entry same_row es row c.signed-k.result =
    c.in_ok-insert.ensures.entries ∙ ap (λ fs. insert_entry same_row fs row c.signed-k.result) (c.add_known.ensures.unknown c.if-add_known.false) in
    let made : IsCompact row.items = record { row = c.args.set.now; packed = c.requires; words = c.in_ok-row.ensures } in
    subst AreTotals (sym grown) (AreTotals-insert es row c.signed-k.result c.self.invariant made c.signed-k.ensures.below)

pub returns : goal.returns
returns c =
    let es = c.self.inside.sets.entries in
    let row = c.in_ok-row.row in
    let set : compact_set row.items ≡ set_of c.args.set.now = ap compact_set c.in_ok-row.ensures ∙ compact_set-compact c.args.set.now c.requires in
    let was : Collected = record { sets = sums_of es; constant = c.self.inside.constant } in
    let grown : c.insert.new.self.entries ≡ insert_entry same_row es row c.signed-k.result =
    c.in_ok-insert.ensures.entries ∙ ap (λ fs. insert_entry same_row fs row c.signed-k.result) (c.add_known.ensures.unknown c.if-add_known.false) in
    let none : 0 ≡ unwrap_or (lookup (same_row row) es) 0 =
    sym (ap (λ (words : List ℕ). unwrap_or (lookup (is_row words) es) 0) (sym c.deref.ensures.value) ∙ ap (λ o. unwrap_or o 0) (c.add_known.ensures.absent c.if-add_known.false)) in
    let value : c.signed-k.result ≡ (0 % 8 + (c.args.k * c.args.sign) % 8) % 8 = omega (arith, c.signed-k.ensures.value) in
    subst (λ (old : Collected). Adds c.args.sign ((set_of c.args.set.now, c.args.k) ∷ []) 0 old (record { sets = sums_of c.insert.new.self.entries; constant = c.self.inside.constant })) c.self.view_is
    (subst (λ fs. Adds c.args.sign ((set_of c.args.set.now, c.args.k) ∷ []) 0 was (record { sets = sums_of fs; constant = c.self.inside.constant })) (sym grown)
    (subst (λ m. Adds c.args.sign ((m, c.args.k) ∷ []) 0 was (record { sets = sums_of (insert_entry same_row es row c.signed-k.result); constant = c.self.inside.constant })) set
    (Adds-insert c.args.sign c.args.k c.self.inside.constant es row 0 c.signed-k.result none value)))
