-- One text more: a number that isn't there before; and all of them.
use Rattle.std.proofs.Common.{◌≡◌, Some, arith, false, map, subst, sym, ap, ◌∙◌}
use Rattle.std.specs.Prelude.{nat_eq}
use Rattle.std.specs.List.{IsDistinct, list_any}
use Rattle.command_line.specs.Commands.{numbers_in}
use Rattle.command_line.proofs.QubitLaws.{IsDistinct-more, IsDistinct-none, behind, none, numbers-all, numbers-more, numbers-none, numbers-twice, numbers-unspelt}
use Rattle.command_line.proofs.words.numbers.Goals as goal

pub texts-init : goal.texts-init
texts-init c = record {
  rest = ap (λ ns. behind ns (numbers_in (map (λ t. t.now) c.args.texts.now))) c.new-list.ensures.items ∙ numbers-none (numbers_in (map (λ t. t.now) c.args.texts.now));
  distinct = subst (IsDistinct nat_eq) (sym c.new-list.ensures.items) IsDistinct-none;
}

pub returns-in_default-clause-value : goal.returns-in_default-clause-value
returns-in_default-clause-value c =
    numbers-unspelt (λ t. t.now) c.args.texts.now c.texts.text-index _ c.texts.list.items c.number.result _ c.texts-test.true c.number.ensures
    (none c.number.result c.in_default.not-Some) c.texts.invariant.rest

pub returns-then-contains-clause-value : goal.returns-then-contains-clause-value
returns-then-contains-clause-value c =
    numbers-twice (λ t. t.now) c.args.texts.now c.texts.text-index _ c.texts.list.items c.number.result c.in-Some.qubit _ c.texts-test.true c.number.ensures
    c.in-Some.is (ap (λ ns. list_any (λ q. nat_eq q c.in-Some.qubit) ns) (sym c.deref.ensures.value) ∙ sym c.contains.ensures.value ∙ c.if-contains.true)
    c.texts.invariant.rest

pub returns-clause-value : goal.returns-clause-value
returns-clause-value c =
    ap Some c.new.ensures.value
    ∙ numbers-all (λ t. t.now) c.args.texts.now c.texts.text-index c.texts.list.items _ (omega (arith, c.texts-test.false)) c.texts.invariant.distinct
    c.texts.invariant.rest

pub texts-preserved : goal.texts-preserved
texts-preserved c =
    let apart : list_any (λ q. nat_eq q c.in-Some.qubit) c.texts.list.items ≡ false =
    ap (λ ns. list_any (λ q. nat_eq q c.in-Some.qubit) ns) (sym c.deref.ensures.value) ∙ sym c.contains.ensures.value ∙ c.if-contains.false in
    record {
      rest = numbers-more (λ t. t.now) c.args.texts.now c.texts.text-index _ c.texts.list.items c.push.new.self.items c.number.result c.in-Some.qubit _
          c.texts-test.true c.number.ensures c.in-Some.is c.in_ok-push.ensures.items c.texts.invariant.rest;
      distinct = subst (IsDistinct nat_eq) (sym c.in_ok-push.ensures.items) (IsDistinct-more c.in-Some.qubit c.texts.list.items c.texts.invariant.distinct apart);
    }
