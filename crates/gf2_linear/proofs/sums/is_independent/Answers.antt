use Rattle.std.proofs.Common.{◌≡◌, length, arith}
use Rattle.gf2_linear.proofs.SumLaws.{taken-new, taken-dependent, taken-independent}
use Rattle.gf2_linear.proofs.sums.is_independent.Goals as goal

pub rows-preserved : goal.rows-preserved
rows-preserved c =
    taken-new c.args.rows.now c.rows.row-index c.row-item.result c.in_ok-insert.field-0 c.rows.basis c.insert.new.self c.rows-test.true c.row-item.is
    c.if-not-branch.false c.in_ok-insert.ensures.ok c.rows.invariant

pub returns-then-not-branch : goal.returns-then-not-branch
returns-then-not-branch c = record {
  ok =
      taken-dependent c.args.rows.now c.rows.row-index c.row-item.result c.in_ok-insert.field-0 c.rows.basis c.rows-test.true c.row-item.is
      c.if-not-branch.true c.in_ok-insert.ensures.told c.rows.invariant;
}

pub returns : goal.returns
returns c = record {
  ok =
      let n : c.rows.row-index ≡ length c.args.rows.now = omega arith in
      taken-independent c.args.rows.now c.rows.row-index c.rows.basis n c.facts.ensures.independent c.rows.invariant;
}
