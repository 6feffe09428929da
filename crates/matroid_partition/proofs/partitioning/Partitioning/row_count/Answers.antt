use Rattle.std.proofs.Common.{length, ap, ◌∙◌}
use Rattle.matroid_partition.specs.Arrangements.{Arrangement}
use Rattle.matroid_partition.proofs.partitioning.Partitioning.row_count.Goals as goal

pub returns : goal.returns
returns c = record { value = c.len.ensures ∙ c.self.inside.homes.ok.0 ∙ ap (λ (a : Arrangement). length a.homes) c.self.view_is }
