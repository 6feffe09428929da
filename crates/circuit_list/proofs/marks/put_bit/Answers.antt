use Rattle.std.proofs.Common.{◌∙◌, ◌==◌, cond, sym, ap}
use Rattle.std.specs.Int.{bit_at}
use Rattle.circuit_list.proofs.MarkLaws.{bit-cleared, bit-set}
use Rattle.circuit_list.proofs.marks.put_bit.Goals as goal

pub returns-then-on : goal.returns-then-on
returns-then-on c i low = bit-set c.args.word c.args.bit c.requires i ∙ ap (λ b. cond (i == c.args.bit) (cond b 1 0) (bit_at c.args.word i)) (sym c.if-on.true)

pub returns-else-on : goal.returns-else-on
returns-else-on c i low = bit-cleared c.args.word c.args.bit c.requires i low ∙ ap (λ b. cond (i == c.args.bit) (cond b 1 0) (bit_at c.args.word i)) (sym c.if-on.false)
