use Rattle.std.proofs.Common.{IfOk, length, subst, ap, ◌∙◌}
use Rattle.matroid_partition.specs.Arrangements.{Arrangement}
use Rattle.matroid_partition.specs.Searches.{IsRoot}
use Rattle.matroid_partition.proofs.partitioning.Partitioning.front.Goals as goal

pub returns : goal.returns
returns c =
    subst (λ k. IfOk c.front_at.result (λ f. IsRoot k f.nodes.items)) (c.len.ensures ∙ c.self.inside.homes.ok.0 ∙ ap (λ (a : Arrangement). length a.homes) c.self.view_is) c.front_at.ensures.ok
