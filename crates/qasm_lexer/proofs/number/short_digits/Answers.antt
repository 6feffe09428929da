use Rattle.std.proofs.Common.{arith}
use Rattle.qasm_lexer.proofs.ScaledLaws.{decimal_few}
use Rattle.qasm_lexer.proofs.number.short_digits.Goals as goal

pub returns-clause-value : goal.returns-clause-value
returns-clause-value c =
    decimal_few c.args.text.now c.front_digits-whole.result.now c.behind_point-behind.result.now c.front_digits-part.result.now
    c.front_digits-whole.ensures.value c.behind_point-behind.ensures.value c.front_digits-part.ensures.value (omega arith)
