use Rattle.std.proofs.Common.{◌≡◌, ◌+◌, ◌++◌, ◌∷◌, [], ℕ, List, vec_items, length, subst, sym, ap, ◌∙◌, arith}
use Rattle.gf2_linear.proofs.WideLaws.{Sifting, sifting-insert, sifting-left, sifting-end}
use Rattle.gf2_linear.proofs.wide.sift.Goals.{then-not-branch+in_ok-push, else-not-branch}
use Rattle.gf2_linear.proofs.wide.sift.Goals as goal

pub rows-preserved : goal.rows-preserved
rows-preserved c = elim c.if-not-branch.branch [
  | then-not-branch+in_ok-push w ↦
      subst (λ (q : List ℕ). Sifting c.args.rows.now (c.rows.row-index + 1) c.insert.new.self q) (ap vec_items (sym w.left-is))
      (sifting-left c.args.rows.now c.rows.row-index c.row-item.result c.in_ok-insert.field-0 c.rows.basis c.insert.new.self c.rows.left.items w.push.new.self.items c.rows-test.true c.row-item.is
      w.if-not-branch.true c.in_ok-insert.ensures.told c.in_ok-insert.ensures.ok (w.in_ok-push.ensures.items ∙ ap (λ (y : ℕ). c.rows.left.items ++ y ∷ []) w.copy.ensures.same) c.rows.invariant)
  | else-not-branch w ↦
      subst (λ (q : List ℕ). Sifting c.args.rows.now (c.rows.row-index + 1) c.insert.new.self q) (ap vec_items (sym w.left-is))
      (sifting-insert c.args.rows.now c.rows.row-index c.row-item.result c.in_ok-insert.field-0 c.rows.basis c.insert.new.self c.rows.left.items c.rows-test.true c.row-item.is
      w.if-not-branch.false c.in_ok-insert.ensures.told c.in_ok-insert.ensures.ok c.rows.invariant)
]

pub returns : goal.returns
returns c =
    let end : c.rows.row-index ≡ length c.args.rows.now = omega (arith, c.rows.invariant.within) in
    sifting-end c.args.rows.now c.rows.row-index c.rows.basis c.rows.left.items end c.facts.ensures.independent c.rows.invariant
