use denote.Ref.{Bor}
use Rattle.std.proofs.Common.{◌≡◌, ℕ, List, Bool, false, arith, sym, ◌∙◌}
use Rattle.std.proofs.lemmas.Grind.{common_steps}
use Rattle.gate_library.specs.Names.{has_repeat}
use Rattle.std.specs.Str.{bytes_eq}
use Rattle.std.specs.Cmp.Lexicographic.{nat_list_eq_equiv}
use Rattle.gate_library.proofs.RepeatLaws.{has_repeat-names, repeat_found, repeat_none}
use Rattle.gate_library.proofs.repeats.few_repeat.Goals as goal

same : Bor (List ℕ) → Bor (List ℕ) → Bool
same x y = bytes_eq x.now y.now

pub returns-then-stands_in : goal.returns-then-stands_in
unfolding same
returns-then-stands_in c =
    repeat_found same (λ x y. nat_list_eq_equiv.symm x.now y.now) c.args.names.now c.names.i _ c.names-test.true (sym c.stands_in.ensures ∙ c.if-stands_in.true)
    ∙ has_repeat-names c.args.names.now

pub names-preserved : goal.names-preserved
unfolding same
names-preserved c =
    repeat_none same (λ x y. nat_list_eq_equiv.symm x.now y.now) c.args.names.now c.names.i _ c.names-test.true c.names.invariant
    (sym c.stands_in.ensures ∙ c.if-stands_in.false)

pub returns : goal.returns
returns c = sym (sym (has_repeat-names c.args.names.now) ∙ whole)
  where
    whole : has_repeat (λ x y. bytes_eq x.now y.now) c.args.names.now ≡ false
    whole = grind (arith, common_steps)
