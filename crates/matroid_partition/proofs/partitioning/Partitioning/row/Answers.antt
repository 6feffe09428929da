use Rattle.std.proofs.Common.{ℕ, ◌≡◌, ◌<◌, ◌≤◌, ◌∷◌, [], length, get_or, subst, sym, ap, ◌∙◌, arith}
use Rattle.std.specs.Borrow.{Bor}
use Rattle.std.proofs.lemmas.List.{get_or_append_left, get_or_push}
use Rattle.matroid_partition.specs.Arrangements.{Arrangement}
use Rattle.matroid_partition.proofs.BlockLaws.{length-values, value-at}
use Rattle.matroid_partition.proofs.partitioning.Partitioning.row.Goals as goal

pub returns-then-place-len : goal.returns-then-place-len
returns-then-place-len c = record {
  value =
      let l : c.args.place < length c.self.inside.rows.items = omega (arith, c.if-place-len.true, c.len.ensures, c.self.inside.rows.ok.0) in
      let m : c.args.place < length c.args.self.now.rows = subst (λ (a : Arrangement). c.args.place < length a.rows) c.self.view_is (omega (arith, l, length-values c.self.inside.rows.items)) in
      ap (λ (r : Bor ℕ). r.now) c.index.ensures ∙ value-at c.self.inside.rows.items c.args.place c.index.result.now 0 l ∙ ap (λ (a : Arrangement). get_or a.rows c.args.place 0) c.self.view_is
      ∙ sym (get_or_append_left c.args.self.now.rows (c.args.new.now ∷ []) 0 c.args.place m);
}

pub returns-else-place-len : goal.returns-else-place-len
returns-else-place-len c = record {
  value =
      let g : length c.self.inside.rows.items ≤ c.args.place = omega (arith, c.if-place-len.false, c.len.ensures, c.self.inside.rows.ok.0) in
      let m : length c.args.self.now.rows ≤ c.args.place = subst (λ (a : Arrangement). length a.rows ≤ c.args.place) c.self.view_is (omega (arith, g, length-values c.self.inside.rows.items)) in
      let e : length c.args.self.now.rows ≡ c.args.place = omega (arith, m, c.requires.within) in
      sym (get_or_push c.args.self.now.rows c.args.new.now 0 c.args.place e);
}
