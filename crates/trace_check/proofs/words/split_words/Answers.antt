use Rattle.std.proofs.Common.{ℕ, List, [], ◌-◌, length, take, drop, sym, subst}
use Rattle.std.proofs.lemmas.List.{take_rest}
use Rattle.trace_check.proofs.WordLaws.{IsSplit, filled, split-start, split-no_number, split-number}
use Rattle.trace_check.proofs.words.split_words.Goals as goal

pub numbers-init : goal.numbers-init
numbers-init c =
    let line : List ℕ = c.args.line.now in
    let k : ℕ = c.piece_len-size.result in
    subst (λ ks. IsSplit line (take k line) ks (take (length line - k) (drop k line))) (sym c.clear.ensures.items)
    (subst (λ r. IsSplit line (take k line) [] r) (sym (take_rest line k))
    (subst (λ m. IsSplit line (take m line) [] (drop m line)) (sym c.piece_len-size.ensures.value) (split-start line)))

pub returns-in_default : goal.returns-in_default
returns-in_default c = record {
  ok =
      λ w ks hw hk e.
      split-no_number c.args.line.now (take c.piece_len-size.result c.args.line.now) c.numbers.numbers.items c.numbers.rest.now w ks c.numbers.invariant
      (filled c.is_empty.result (length c.numbers.rest.now) c.is_empty.ensures c.numbers-test.true) c.in_default.ensures.number hw hk e;
}

pub numbers-preserved : goal.numbers-preserved
numbers-preserved c =
    let line : List ℕ = c.args.line.now in
    let w : List ℕ = take c.piece_len-size.result line in
    subst (λ ks. IsSplit line w ks c.in-Some.behind.now) (sym c.in_ok-push.ensures.items)
    (split-number line w c.numbers.numbers.items c.numbers.rest.now c.in-Some.behind.now c.in-Some.value c.numbers.invariant
    (filled c.is_empty.result (length c.numbers.rest.now) c.is_empty.ensures c.numbers-test.true) c.in-Some.ensures.below c.in-Some.ensures.number c.in-Some.ensures.left)
