use Rattle.std.proofs.Common.{◌≡◌, length, subst, sym, ◌∙◌}
use Rattle.std.specs.Prelude.{vec_len}
use Rattle.std.proofs.lemmas.Bool.{eqb-true}
use Rattle.matroid_partition.specs.Arrangements.{IsFull}
use Rattle.matroid_partition.proofs.PartLaws.{open-none}
use Rattle.matroid_partition.proofs.partitioning.Partitioning.is_full.Goals as goal

pub returns : goal.returns
returns c t =
    let none : length c.self.inside.unfilled.items ≡ 0 = sym c.self.inside.unfilled.ok.0 ∙ eqb-true (vec_len c.self.inside.unfilled) 0 (sym c.is_empty.ensures ∙ t) in
    subst IsFull c.self.view_is (open-none (length c.self.inside.all) c.self.inside.blocks.items c.self.inside.unfilled.items none c.self.invariant.rooms)
