use Rattle.std.proofs.Common.{ap, ◌∙◌}
use Rattle.matroid_partition.specs.Arrangements.{Arrangement}
use Rattle.matroid_partition.proofs.partitioning.Partitioning.homes.Goals as goal

pub returns : goal.returns
returns c = record { value = c.deref.ensures.value ∙ ap (λ (a : Arrangement). a.homes) c.self.view_is }
