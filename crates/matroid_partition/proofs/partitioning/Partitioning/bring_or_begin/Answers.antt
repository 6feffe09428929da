use Rattle.std.proofs.Common.{◌≡◌, ◌<◌, true, List, ℕ, length, subst, sym, ap, ◌∙◌}
use Rattle.std.specs.Prelude.{All}
use Rattle.gf2_linear.specs.Rows.{is_sum}
use Rattle.matroid_partition.specs.Arrangements.{Arrangement, rows_with}
use Rattle.matroid_partition.specs.Blocks.{IsShown, shown_by}
use Rattle.matroid_partition.specs.Flats.{IsFlat}
use Rattle.matroid_partition.proofs.PartitioningLaws.{brought-shown}
use Rattle.matroid_partition.proofs.partitioning.Partitioning.bring_or_begin.Goals as goal

pub begin-requires-clause-spanned : goal.begin-requires-clause-spanned
begin-requires-clause-spanned c =
    let same = rw c.in-Some.is at c.in_ok-settle.ensures.same in
    subst (λ (a : Arrangement). is_sum a.all c.args.row.now ≡ true) (sym same) c.requires.spanned

pub renew-requires-clause-flat : goal.renew-requires-clause-flat
renew-requires-clause-flat c =
    let same = rw c.in-Some.is at c.in_ok-settle.ensures.same in
    subst (λ (q : List ℕ). IsFlat q c.args.flat.now) (sym (c.in_ok-begin-in-Some.ensures.ok.rows ∙ ap (λ (a : Arrangement). rows_with a c.args.row.now) same)) c.requires.flat

pub renew-requires-clause-within : goal.renew-requires-clause-within
renew-requires-clause-within c =
    let same = rw c.in-Some.is at c.in_ok-settle.ensures.same in
    let closed = rw c.in-Some.is at c.in_ok-settle.ensures.closed in
    let shown : IsShown (rows_with c.args.self.now c.args.row.now) (length c.args.self.now.blocks) (shown_by c.in_ok-witness-in-Some.witness) =
    brought-shown c.args.self.now c.settle.new.self c.args.row.now c.in-Some.reached (shown_by c.in_ok-witness-in-Some.witness) c.facts.ensures.arranged closed same c.in_ok-witness-in-Some.ensures in
    subst (λ (q : List ℕ). All (λ i. i < length q) (shown_by c.in_ok-witness-in-Some.witness))
    (sym (c.in_ok-begin-in-Some.ensures.ok.rows ∙ ap (λ (a : Arrangement). rows_with a c.args.row.now) same)) shown.within

pub renew-requires-clause-ascending : goal.renew-requires-clause-ascending
renew-requires-clause-ascending c =
    let same = rw c.in-Some.is at c.in_ok-settle.ensures.same in
    let closed = rw c.in-Some.is at c.in_ok-settle.ensures.closed in
    let shown : IsShown (rows_with c.args.self.now c.args.row.now) (length c.args.self.now.blocks) (shown_by c.in_ok-witness-in-Some.witness) =
    brought-shown c.args.self.now c.settle.new.self c.args.row.now c.in-Some.reached (shown_by c.in_ok-witness-in-Some.witness) c.facts.ensures.arranged closed same c.in_ok-witness-in-Some.ensures in
    shown.ascending

pub returns-in_ok-renew-in-Some-clause-shown : goal.returns-in_ok-renew-in-Some-clause-shown
returns-in_ok-renew-in-Some-clause-shown c =
    let same = rw c.in-Some.is at c.in_ok-settle.ensures.same in
    let closed = rw c.in-Some.is at c.in_ok-settle.ensures.closed in
    brought-shown c.args.self.now c.settle.new.self c.args.row.now c.in-Some.reached (shown_by c.in_ok-witness-in-Some.witness) c.facts.ensures.arranged closed same c.in_ok-witness-in-Some.ensures
