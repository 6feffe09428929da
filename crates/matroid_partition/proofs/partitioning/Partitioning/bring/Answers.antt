use Rattle.std.proofs.Common.{List, ℕ, subst, sym, ◌∙◌}
use Rattle.matroid_partition.specs.Flats.{IsFlat}
use Rattle.matroid_partition.proofs.partitioning.Partitioning.bring.Goals as goal

pub begin_over-requires-clause-flat : goal.begin_over-requires-clause-flat
begin_over-requires-clause-flat c =
    c.in_ok-note.ensures.noted c.widen.new.self.rows (subst (λ (q : List ℕ). IsFlat q c.args.flat.now) (sym c.in_ok-widen.ensures.ok.rows) c.requires.flat)
    (sym c.facts.ensures.arranged.count ∙ sym c.row_count.ensures.value)

pub bring_or_begin-requires-clause-flat : goal.bring_or_begin-requires-clause-flat
bring_or_begin-requires-clause-flat c =
    c.in_ok-note.ensures.noted c.widen.new.self.rows (subst (λ (q : List ℕ). IsFlat q c.args.flat.now) (sym c.in_ok-widen.ensures.ok.rows) c.requires.flat)
    (sym c.facts.ensures.arranged.count ∙ sym c.row_count.ensures.value)

pub returns-in_ok-witness-clause-flat : goal.returns-in_ok-witness-clause-flat
returns-in_ok-witness-clause-flat c =
    subst (λ (q : List ℕ). IsFlat q c.note.new.self) (sym c.in_ok-witness.ensures.entered.rows)
    (c.in_ok-note.ensures.noted c.widen.new.self.rows (subst (λ (q : List ℕ). IsFlat q c.args.flat.now) (sym c.in_ok-widen.ensures.ok.rows) c.requires.flat)
    (sym c.facts.ensures.arranged.count ∙ sym c.row_count.ensures.value))
