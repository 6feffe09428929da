use Rattle.std.proofs.Common.{◌<◌, ℕ, List, IfSome, length, subst, sym, ap, ◌∙◌}
use Rattle.std.specs.Prelude.{All}
use Rattle.matroid_partition.specs.declared.blocks.Block.{Block}
use Rattle.matroid_partition.specs.Arrangements.{Arrangement}
use Rattle.matroid_partition.specs.Blocks.{HasRoomAt}
use Rattle.matroid_partition.proofs.partitioning.Partitioning.fit.Goals as goal

pub first_fit-requires : goal.first_fit-requires
first_fit-requires c = record {
  within = subst (λ (q : List Block). All (λ k. k < length q) c.deref-2.result.now) (sym c.deref.ensures.value)
      (subst (λ (q : List ℕ). All (λ k. k < length c.self.inside.blocks.items) q) (sym c.deref-2.ensures.value) c.self.invariant.rooms.within);
}

pub returns : goal.returns
returns c = record { some = subst (λ (q : List Block). IfSome c.first_fit.result (λ k. HasRoomAt c.args.row.now q k)) (c.deref.ensures.value ∙ ap (λ (a : Arrangement). a.blocks) c.self.view_is) c.first_fit.ensures.some }
