use Rattle.std.proofs.Common.{◌+◌, length, ap, ◌∙◌}
use Rattle.std.specs.List.{range_with_len}
use Rattle.matroid_partition.specs.Arrangements.{Arrangement}
use Rattle.matroid_partition.specs.Closed.{places_seen}
use Rattle.matroid_partition.proofs.ClosedLaws.{places-all}
use Rattle.matroid_partition.proofs.partitioning.Partitioning.witness.Goals as goal

pub returns-in-Every : goal.returns-in-Every
returns-in-Every c =
    rw c.in-Every.is (
    ap (λ k. range_with_len 0 (k + 1)) (c.len.ensures ∙ c.self.inside.homes.ok.0 ∙ ap (λ (a : Arrangement). length a.homes) c.self.view_is)
    ∙ places-all (length c.args.self.now.homes + 1))

pub returns-in_ok-places-in-Seen : goal.returns-in_ok-places-in-Seen
returns-in_ok-places-in-Seen c = rw c.in-Seen.is (c.in_ok-places-in-Seen.ensures.ok ∙ ap places_seen c.deref.ensures.value)
