use Rattle.std.proofs.Common.{◌≡◌, [], ◌∷◌, ◌++◌, slice_index_or, arith}
use Rattle.std.proofs.lemmas.Grind.{common_steps}
use Rattle.phase_poly.proofs.BuildingLaws.{rows_of-more}
use Rattle.spare_layers.proofs.layer.rows.Goals as goal

pub terms-preserved : goal.terms-preserved
terms-preserved c =
    let pushed : c.push.new.self.items ≡ c.terms.rows.items ++ (slice_index_or c.args.terms.now c.terms.term-index (0, 0)).0 ∷ [] = grind (arith, common_steps) in
    rows_of-more c.args.terms.now c.terms.term-index c.terms.rows.items c.push.new.self.items c.terms-test.true c.terms.invariant pushed
