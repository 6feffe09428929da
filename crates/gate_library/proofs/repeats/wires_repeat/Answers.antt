use Rattle.std.proofs.Common.{sym, ◌∙◌}
use Rattle.std.specs.Prelude.{nat_eq}
use Rattle.std.specs.Cmp.{nat_eq_equiv}
use Rattle.gate_library.proofs.RepeatLaws.{contains-updates, repeat_found, repeat_none, set_more, was_false, was_true}
use Rattle.gate_library.proofs.repeats.wires_repeat.Goals as goal

pub returns-then-not-branch : goal.returns-then-not-branch
returns-then-not-branch c = record {
  ok =
      repeat_found nat_eq nat_eq_equiv.symm c.args.wires.now c.wires.wire-index 0 c.wires-test.true
      (sym (c.wires.invariant.same _) ∙ was_true _ _ c.in_ok-insert.ensures.added c.if-not-branch.true);
}

pub wires-preserved : goal.wires-preserved
wires-preserved c = record {
  same = λ wire. set_more nat_eq nat_eq_equiv.symm c.args.wires.now c.wires.wire-index 0 wire _ _ c.wires-test.true
      (c.wires.invariant.same wire) (contains-updates _ _ _ c.in_ok-insert.ensures.updates wire);
  none = repeat_none nat_eq nat_eq_equiv.symm c.args.wires.now c.wires.wire-index 0 c.wires-test.true c.wires.invariant.none
      (sym (c.wires.invariant.same _) ∙ was_false _ _ c.in_ok-insert.ensures.added c.if-not-branch.false);
}
