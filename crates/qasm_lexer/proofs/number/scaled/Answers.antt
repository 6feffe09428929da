use Rattle.std.proofs.Common.{◌≡◌, ◌++◌, ap, ◌∙◌, sym, arith, length, Ok}
use Rattle.qasm_lexer.specs.Numbers.{number, scaled}
use Rattle.qasm_lexer.proofs.ScaledLaws.{all_digits, scaled-nought}
use Rattle.qasm_lexer.proofs.ValueLaws.{laws}
use Rattle.qasm_lexer.proofs.number.scaled.Goals as goal

pub returns-then-head-eq0 : goal.returns-then-head-eq0
returns-then-head-eq0 c =
    let all = all_digits c.args.whole.now c.args.part.now in
    let none : number (c.args.whole.now ++ c.args.part.now) ≡ 0 = omega arith in
    ap Ok c.nought.ensures.value ∙ sym (scaled-nought (laws c.lowest_terms.ensures.reduced c.lowest_terms.ensures.same) (c.args.whole.now ++ c.args.part.now) (length c.args.part.now) c.args.down c.args.size none)

pub scaled_down-requires-clause-some : goal.scaled_down-requires-clause-some
scaled_down-requires-clause-some c = let all = all_digits c.args.whole.now c.args.part.now in omega arith

pub scaled_up-requires-clause-some : goal.scaled_up-requires-clause-some
scaled_up-requires-clause-some c = let all = all_digits c.args.whole.now c.args.part.now in omega arith

pub returns-then-down : goal.returns-then-down
unfolding scaled
returns-then-down c = rw c.if-down.true c.scaled_down.ensures

pub returns-else-down : goal.returns-else-down
unfolding scaled
returns-else-down c = rw c.if-down.false c.scaled_up.ensures
