use Rattle.std.proofs.Common.{ap, nat_le, sym}
use Rattle.qasm_parser.specs.Expressions.{left_level}
use Rattle.qasm_parser.proofs.grouping.is_minus_first.Goals as goal

pub returns-in-Pow : goal.returns-in-Pow
returns-in-Pow c = record { grouped = λ a. ap (λ s. nat_le (left_level s) 3) (sym c.in-Pow.is) }
