use Rattle.std.proofs.Common.{◌≡◌, [], ◌∷◌, ◌++◌, slice_index_or, arith}
use Rattle.std.proofs.lemmas.Grind.{common_steps}
use Rattle.phase_poly.proofs.BuildingLaws.{rows-more}
use Rattle.spare_layers.proofs.weaving.chosen.Goals as goal

pub places-preserved : goal.places-preserved
places-preserved c =
    let pushed : c.push.new.self.items ≡ c.places.rows.items ++ (slice_index_or c.args.terms.now (slice_index_or c.args.block.now c.places.place-index 0) (0, 0)).0 ∷ [] = grind (arith, common_steps) in
    rows-more c.args.terms.now c.args.block.now c.places.place-index 0 c.places.rows.items c.push.new.self.items c.places-test.true c.places.invariant pushed
