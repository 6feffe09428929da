use Rattle.std.proofs.Common.{◌∷◌, ◌∙◌, arith}
use Rattle.amplitude_exact.proofs.ColumnLaws.{value-set}
use Rattle.amplitude_exact.proofs.columns.write_column.Goals as goal

pub numbers-preserved : goal.numbers-preserved
numbers-preserved c = λ k l d us to h.
    value-set c.args.wires (c.args.op ∷ us) to c.numbers.next c.numbers.number c.value_at.result k d (omega (arith, c.numbers-test.true, c.numbers.auto.next)) l
    (λ b. c.numbers.invariant k b d us to h) (c.value_at.ensures us to h)

pub returns : goal.returns
returns c = record {
  new =
      λ us to h. record {
        long = c.numbers.auto.next ∙ c.requires.next_long;
        each = λ i d l. c.numbers.invariant i (omega (arith, l, c.requires.next_long, c.numbers-test.false)) d us to h;
      };
}
