use Rattle.std.proofs.Common.{◌+◌, true, length, replicate, ap, ◌∙◌}
use Rattle.matroid_partition.specs.Arrangements.{Arrangement}
use Rattle.matroid_partition.proofs.partitioning.Partitioning.seen.Goals as goal

pub returns-in_ok-seen-in-Every : goal.returns-in_ok-seen-in-Every
returns-in_ok-seen-in-Every c = record {
  ok =
      rw c.in-Every.is (
      c.in_ok-seen-in-Every.ensures.items_if_clones_equal (λ y e. e)
      ∙ ap (λ k. replicate (k + 1) true) (c.len.ensures ∙ c.self.inside.homes.ok.0 ∙ ap (λ (a : Arrangement). length a.homes) c.self.view_is));
}
