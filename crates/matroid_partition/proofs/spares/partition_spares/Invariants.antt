use Rattle.matroid_partition.specs.Blocks.{shown_by}
use Rattle.matroid_partition.proofs.DealtLaws.{UnderwayWide}
use Rattle.matroid_partition.proofs.spares.partition_spares.Given as goal

abbrev pub invariant-rows : goal.invariant-rows
invariant-rows l = UnderwayWide l.rows l.place l.room l.dealing (shown_by l.witness)
