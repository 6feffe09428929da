use denote.Ref.{Bor}
use Rattle.std.proofs.Common.{◌≡◌, ℕ, List, Bool, false, arith, sym, ◌∙◌}
use Rattle.std.proofs.lemmas.Grind.{common_steps}
use Rattle.gate_library.specs.Names.{has_repeat}
use Rattle.std.specs.Str.{bytes_eq}
use Rattle.std.specs.Cmp.Lexicographic.{nat_list_eq_equiv}
use Rattle.gate_library.proofs.RepeatLaws.{has_repeat-names, is_in-updates, key, repeat_found, repeat_none, set_more, was_false, was_true}
use Rattle.gate_library.proofs.repeats.many_repeat.Goals as goal

same : Bor (List ℕ) → Bor (List ℕ) → Bool
same x y = bytes_eq x.now y.now

pub returns-then-not-branch : goal.returns-then-not-branch
unfolding same
returns-then-not-branch c = record {
  ok =
      (repeat_found same (λ x y. nat_list_eq_equiv.symm x.now y.now) c.args.names.now c.names.name-index _ c.names-test.true
      (sym (c.names.invariant.same _) ∙ was_true _ _ c.in_ok-insert.ensures.added c.if-not-branch.true))
      ∙ has_repeat-names c.args.names.now;
}

pub names-preserved : goal.names-preserved
unfolding same key
names-preserved c = record {
  same = λ name. set_more same (λ x y. nat_list_eq_equiv.symm x.now y.now) c.args.names.now c.names.name-index _ (key name) _ _ c.names-test.true
      (c.names.invariant.same name) (is_in-updates _ _ _ c.in_ok-insert.ensures.updates name);
  none = repeat_none same (λ x y. nat_list_eq_equiv.symm x.now y.now) c.args.names.now c.names.name-index _ c.names-test.true c.names.invariant.none
      (sym (c.names.invariant.same _) ∙ was_false _ _ c.in_ok-insert.ensures.added c.if-not-branch.false);
}

pub returns : goal.returns
returns c = record { ok = sym (sym (has_repeat-names c.args.names.now) ∙ whole) }
  where
    whole : has_repeat (λ x y. bytes_eq x.now y.now) c.args.names.now ≡ false
    whole = grind (arith, common_steps)
