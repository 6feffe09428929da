use Rattle.std.proofs.Common.{refl, arith, ◌++◌}
use Rattle.qasm_lexer.specs.Numbers.{front_number}
use Rattle.qasm_lexer.proofs.DigitLaws.{front_number-next}
use Rattle.qasm_lexer.proofs.number.head.Goals as goal

pub loop-place-init : goal.loop-place-init
unfolding front_number
loop-place-init c = refl

pub loop-place-preserved : goal.loop-place-preserved
loop-place-preserved c =
    let next = front_number-next (c.args.whole.now ++ c.args.part.now) c.loop-place.place in
    omega arith
