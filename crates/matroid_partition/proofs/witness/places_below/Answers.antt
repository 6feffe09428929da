use Rattle.std.proofs.Common.{◌∙◌, ap, sym, ◌++◌, ◌∷◌, []}
use Rattle.matroid_partition.proofs.BlockLaws.{range-more}
use Rattle.matroid_partition.proofs.witness.places_below.Goals as goal

pub places-preserved : goal.places-preserved
places-preserved c = c.in_ok-push.ensures.items ∙ ap (λ k. k ++ c.places.place ∷ []) c.places.invariant ∙ sym (range-more c.places.place)
