use Rattle.std.proofs.Common.{◌≡◌, ◌+◌, ◌<◌, ◌^◌, ◌++◌, ◌∷◌, [], ℕ, length, subst, sym, ap, ◌∙◌, arith}
use Rattle.std.specs.Prelude.{bit_xor}
use Rattle.gf2_linear.specs.Rows.{is_independent}
use Rattle.gf2_linear.proofs.WideLaws.{Widening, widening-end, widening-flip, widening-insert, widening-none, widening-room}
use Rattle.gf2_linear.proofs.wide.widened.Goals.{then-not-branch, else-not-branch}
use Rattle.gf2_linear.proofs.wide.widened.Goals as goal

pub rows-init : goal.rows-init
rows-init c = widening-none c.args.rows.now c.new-basis.result c.new-wide.result.items c.args.wires c.new-basis.ensures.value c.new-wide.ensures.items

pub flip-requires : goal.flip-requires
flip-requires c = record {
  within =
      let room : c.rows.extra < length c.args.rows.now =
      widening-room c.args.rows.now c.rows.row-index c.args.wires c.row-item.result c.in_ok-insert.field-0 c.rows.basis c.insert.new.self c.rows.wide.items c.rows.extra c.rows-test.true c.row-item.is
      c.requires.rank c.if-not-branch.true c.in_ok-insert.ensures.told c.in_ok-insert.ensures.ok c.rows.invariant in
      omega (arith, c.requires.rows_limit);
}

pub overflow_add-extra : goal.overflow_add-extra
overflow_add-extra c =
    let room : c.rows.extra < length c.args.rows.now =
    widening-room c.args.rows.now c.rows.row-index c.args.wires c.row-item.result c.in_ok-insert.field-0 c.rows.basis c.insert.new.self c.rows.wide.items c.rows.extra c.rows-test.true c.row-item.is
    c.requires.rank c.if-not-branch.true c.in_ok-insert.ensures.told c.in_ok-insert.ensures.ok c.rows.invariant in
    omega (arith, c.requires.rows_limit)

pub rows-preserved : goal.rows-preserved
rows-preserved c = elim c.if-not-branch.branch [
  | then-not-branch w ↦
      subst (λ (n : ℕ). Widening c.args.rows.now (c.rows.row-index + 1) c.args.wires c.insert.new.self c.push.new.self.items n) (sym w.extra-is)
      (widening-flip c.args.rows.now c.rows.row-index c.args.wires c.row-item.result c.if-not-branch.more c.in_ok-insert.field-0 c.rows.basis c.insert.new.self c.rows.wide.items c.push.new.self.items c.rows.extra
      c.requires.below c.rows-test.true c.row-item.is w.if-not-branch.true c.in_ok-insert.ensures.told c.in_ok-insert.ensures.ok
      (w.more-is ∙ w.flip.ensures.new ∙ ap (λ (q : ℕ). bit_xor q (2 ^ c.rows.extra)) c.copy-more.ensures.same) c.in_ok-push.ensures.items c.rows.invariant)
  | else-not-branch w ↦
      subst (λ (n : ℕ). Widening c.args.rows.now (c.rows.row-index + 1) c.args.wires c.insert.new.self c.push.new.self.items n) (sym w.extra-is)
      (widening-insert c.args.rows.now c.rows.row-index c.args.wires c.row-item.result c.in_ok-insert.field-0 c.rows.basis c.insert.new.self c.rows.wide.items c.push.new.self.items c.rows.extra
      c.requires.below c.rows-test.true c.row-item.is w.if-not-branch.false c.in_ok-insert.ensures.told c.in_ok-insert.ensures.ok
      (c.in_ok-push.ensures.items ∙ ap (λ (q : ℕ). c.rows.wide.items ++ q ∷ []) (w.more-is ∙ c.copy-more.ensures.same)) c.rows.invariant)
]

pub from_rows-requires : goal.from_rows-requires
from_rows-requires c = record {
  matrix =
      let end : c.rows.row-index ≡ length c.args.rows.now = omega (arith, c.rows.invariant.within) in
      (widening-end c.args.rows.now c.rows.row-index c.args.wires c.rows.basis c.rows.wide.items c.rows.extra c.requires.rows_limit c.requires.rank end c.facts.ensures.independent c.rows.invariant).matrix;
}

pub returns-clause-length : goal.returns-clause-length
returns-clause-length c =
    let end : c.rows.row-index ≡ length c.args.rows.now = omega (arith, c.rows.invariant.within) in
    ap length c.from_rows.ensures.value
    ∙ (widening-end c.args.rows.now c.rows.row-index c.args.wires c.rows.basis c.rows.wide.items c.rows.extra c.requires.rows_limit c.requires.rank end c.facts.ensures.independent c.rows.invariant).long

pub returns-clause-independent : goal.returns-clause-independent
returns-clause-independent c =
    let end : c.rows.row-index ≡ length c.args.rows.now = omega (arith, c.rows.invariant.within) in
    ap is_independent c.from_rows.ensures.value
    ∙ (widening-end c.args.rows.now c.rows.row-index c.args.wires c.rows.basis c.rows.wide.items c.rows.extra c.requires.rows_limit c.requires.rank end c.facts.ensures.independent c.rows.invariant).independent
