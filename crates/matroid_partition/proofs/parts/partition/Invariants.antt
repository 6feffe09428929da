use Rattle.matroid_partition.specs.Blocks.{shown_by}
use Rattle.matroid_partition.specs.Flats.{IsFlat}
use Rattle.matroid_partition.proofs.PartLaws.{Underway}
use Rattle.matroid_partition.proofs.parts.partition.Given as goal

abbrev pub invariant-rows : goal.invariant-rows
invariant-rows l = Underway l.rows l.row-index l.underway (shown_by l.witness) × IsFlat l.underway.rows l.flat
