use Rattle.std.proofs.Common.{◌≡◌, ◌++◌, ◌+◌, ◌-◌, ◌*◌, ap, sym, ◌∙◌, arith, slice_index}
use Rattle.qasm_lexer.specs.Numbers.{digit, front_number}
use Rattle.qasm_lexer.proofs.DigitLaws.{front_number-next, front_number-zero}
use Rattle.qasm_lexer.proofs.number.digit_back.Goals as goal

pub returns-then-done-total-clause-value : goal.returns-then-done-total-clause-value
returns-then-done-total-clause-value c =
    let digits = c.args.whole.now ++ c.args.part.now in
    let rest = c.args.total - (c.args.done + 1) in
    let back : c.args.total - c.args.done ≡ rest + 1 = omega arith in
    let place : c.args.total - c.args.done - 1 ≡ rest = omega arith in
    ap (λ n. front_number digits n) back ∙ front_number-next digits rest
    ∙ ap (λ d. front_number digits rest * 10 + d) (ap (λ i. digit (slice_index digits i)) (sym place) ∙ sym c.digit_at.ensures.value)

pub returns-else-done-total-clause-value : goal.returns-else-done-total-clause-value
returns-else-done-total-clause-value c =
    let digits = c.args.whole.now ++ c.args.part.now in
    let here : c.args.total - c.args.done ≡ 0 = omega arith in
    let next : c.args.total - (c.args.done + 1) ≡ 0 = omega arith in
    let none = front_number-zero digits in
    rw (here, next, none) (omega arith)
