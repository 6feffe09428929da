use Rattle.std.proofs.Common.{◌≡◌, inl, inr, rules, sym}
use Rattle.trace_text.specs.Texts.{lines_of}
use Rattle.trace_model.proofs.EditionLaws.{edition-named}
use Rattle.trace_check.proofs.editions.edition_from.Goals as goal

pub returns-then-number-eq1 : goal.returns-then-number-eq1
returns-then-number-eq1 c = record {
  named =
      let first : c.in_ok-number.number ≡ 1 = search rules in
      (c.in_ok-number.ensures.found, edition-named c.in_ok-number.number (lines_of c.args.behind.now) (inl first));
}

pub returns-then-has_later : goal.returns-then-has_later
returns-then-has_later c = record {
  named =
      let second : c.in_ok-number.number ≡ 2 = search rules in
      let later = sym c.if-has_later.ensures in
      (c.in_ok-number.ensures.found, edition-named c.in_ok-number.number (lines_of c.args.behind.now) (inr (second, later)));
}
