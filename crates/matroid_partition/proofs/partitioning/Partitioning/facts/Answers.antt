use Rattle.std.proofs.Common.{subst}
use Rattle.matroid_partition.specs.Arrangements.{IsArranged}
use Rattle.matroid_partition.proofs.partitioning.Partitioning.facts.Goals as goal

pub returns : goal.returns
returns c = record { arranged = subst IsArranged c.self.view_is c.self.invariant.arranged }
