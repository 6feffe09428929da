use Rattle.std.proofs.Common.{◌++◌, length-append, arith}
use Rattle.qasm_lexer.proofs.DigitLaws.{digit-past}
use Rattle.qasm_lexer.proofs.number.digit_at.Goals as goal

pub returns-else-place-whole-2-clause-value : goal.returns-else-place-whole-2-clause-value
returns-else-place-whole-2-clause-value c =
    digit-past (c.args.whole.now ++ c.args.part.now) c.args.place (simp length-append (omega arith))
