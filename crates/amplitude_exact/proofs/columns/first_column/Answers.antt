use Rattle.std.proofs.Common.{length, refl}
use Rattle.unitary_model.specs.Ring.{nought, unit}
use Rattle.amplitude_exact.proofs.ColumnLaws.{column_start}
use Rattle.amplitude_exact.proofs.columns.first_column.Goals as goal

pub returns : goal.returns
unfolding nought unit
returns c = record {
  ok =
      column_start (length c.args.to.now) c.args.to.now c.number_of.result c.power_of_two.result _ _ c.in_ok-column.column.items
      c.number_of.ensures.below c.number_of.ensures.bits refl refl c.power_of_two.ensures.value c.in_ok-column.ensures;
}
