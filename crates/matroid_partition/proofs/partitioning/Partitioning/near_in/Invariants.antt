use Rattle.matroid_partition.proofs.partitioning.Partitioning.near_in.Given as goal

abbrev pub invariant-members : goal.invariant-members
invariant-members l = Unit {0}
