use Rattle.std.proofs.Common.{◌≡◌, [], ◌∷◌, ◌++◌, slice_index, ◌∙◌, arith}
use Rattle.std.proofs.lemmas.Grind.{common_steps}
use Rattle.layer_stages.proofs.StageLaws.{chosen-none, chosen-more}
use Rattle.layer_stages.proofs.stage.rows_at.Goals as goal

pub places-init : goal.places-init
places-init c = c.new-chosen.ensures.items ∙ chosen-none c.args.rows.now

pub places-preserved : goal.places-preserved
places-preserved c =
    let pushed : c.push.new.self.items ≡ c.places.chosen.items ++ slice_index c.args.rows.now (slice_index c.args.places.now c.places.place-index) ∷ [] = grind (arith, common_steps) in
    chosen-more c.args.rows.now c.args.places.now c.places.place-index c.places.chosen.items c.push.new.self.items c.places-test.true c.places.invariant pushed
