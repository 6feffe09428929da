use Rattle.std.proofs.Common.{◌≡◌, ◌++◌, ◌+◌, ◌-◌, ◌^◌, ◌<◌, ap, sym, ◌∙◌, subst, arith, min, pos}
use Rattle.std.proofs.lemmas.Result.{err_from_is_err_and}
use Rattle.angle_fraction.specs.Fraction.{fraction}
use Rattle.angle_fraction.specs.Angles.{fitted}
use Rattle.qasm_lexer.specs.Numbers.{front_number}
use Rattle.qasm_lexer.proofs.TailLaws.{IsTail, head_too_large, tail_more, tail_none, ten_more, ten_places, ten_pow, whole_and_tail}
use Rattle.qasm_lexer.proofs.ValueLaws.{laws}
use Rattle.qasm_lexer.proofs.number.placed.Goals as goal

pub loop-done-preserved : goal.loop-done-preserved
loop-done-preserved c =
    let digits = c.args.whole.now ++ c.args.part.now in
    let next = c.args.total - (c.loop-done.done + 1) in
    subst (λ s. IsTail (front_number digits next) (front_number digits c.args.total) s c.in_ok-tail.tail) (ten_more c.loop-done.done)
    (tail_more (laws c.lowest_terms.ensures.reduced c.lowest_terms.ensures.same) _ (front_number digits next) c.digit_back.result (front_number digits c.args.total) (10 ^ c.loop-done.done) c.loop-done.tail c.in_ok-tail.tail
    c.digit_back.ensures.bound c.digit_back.ensures.value c.loop-done.invariant (sym c.behind.ensures ∙ c.in_ok-tail.was))

pub returns-in_err-tail : goal.returns-in_err-tail
returns-in_err-tail c =
    let digits = c.args.whole.now ++ c.args.part.now in
    let less : c.loop-done.done < c.args.places = omega arith in
    let none = tail_none (laws c.lowest_terms.ensures.reduced c.lowest_terms.ensures.same) _ (front_number digits (c.args.total - (c.loop-done.done + 1))) c.digit_back.result (front_number digits c.args.total) (10 ^ c.loop-done.done)
    (10 ^ (c.args.places - (c.loop-done.done + 1))) c.loop-done.tail c.in_err-tail.field-0.0
    c.digit_back.ensures.bound c.digit_back.ensures.value (ten_pow c.loop-done.done) (ten_pow (c.args.places - (c.loop-done.done + 1)))
    c.loop-done.invariant (sym c.behind.ensures ∙ c.in_err-tail.was) in
    let p = err_from_is_err_and c.from_residual.result c.from_residual.ensures.1 in
    rw (p.1, p.2) (none ∙ ap (λ n. fitted (fraction (pos (front_number digits c.args.total)) n)) (ten_places c.loop-done.done c.args.places less))

pub returns-then-head-gt-MOST_PART : goal.returns-then-head-gt-MOST_PART
returns-then-head-gt-MOST_PART c =
    let digits = c.args.whole.now ++ c.args.part.now in
    let last : c.loop-done.done ≡ c.args.places = omega arith in
    let tail = subst (λ n. IsTail (front_number digits (c.args.total - n)) (front_number digits c.args.total) (10 ^ n) c.loop-done.tail) last c.loop-done.invariant in
    let head = c.head-head.ensures ∙ ap (λ n. min (front_number digits n) (2 ^ 63)) c.saturating_sub.ensures in
    head_too_large (laws c.lowest_terms.ensures.reduced c.lowest_terms.ensures.same) (front_number digits (c.args.total - c.args.places)) (front_number digits c.args.total) (10 ^ c.args.places) c.loop-done.tail
    (ten_pow c.args.places) tail (omega arith)

pub returns : goal.returns
returns c =
    let digits = c.args.whole.now ++ c.args.part.now in
    let last : c.loop-done.done ≡ c.args.places = omega arith in
    let tail = subst (λ n. IsTail (front_number digits (c.args.total - n)) (front_number digits c.args.total) (10 ^ n) c.loop-done.tail) last c.loop-done.invariant in
    let head = c.head-head.ensures ∙ ap (λ n. min (front_number digits n) (2 ^ 63)) c.saturating_sub.ensures in
    let is : c.head-head.result ≡ front_number digits (c.args.total - c.args.places) = omega arith in
    c.joined.ensures ∙ whole_and_tail (laws c.lowest_terms.ensures.reduced c.lowest_terms.ensures.same) c.head-head.result (front_number digits c.args.total) (10 ^ c.args.places) c.loop-done.tail (ten_pow c.args.places)
    (subst (λ n. IsTail n (front_number digits c.args.total) (10 ^ c.args.places) c.loop-done.tail) (sym is) tail)
