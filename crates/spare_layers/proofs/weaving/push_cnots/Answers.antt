use Rattle.std.proofs.Common.{◌≡◌, [], ◌∷◌, ◌++◌, slice_index_or, arith}
use Rattle.std.proofs.lemmas.Grind.{common_steps}
use Rattle.circuit_list.specs.declared.Gate.TheVariants.{Cx}
use Rattle.phase_poly.proofs.BuildingLaws.{cnots-more}
use Rattle.spare_layers.proofs.weaving.push_cnots.Goals as goal

pub pairs-preserved : goal.pairs-preserved
pairs-preserved c =
    let pushed : c.push.new.self.items ≡ c.pairs.gates.items ++ Cx (slice_index_or c.args.pairs.now c.pairs.pair-index (0, 0)).0 (slice_index_or c.args.pairs.now c.pairs.pair-index (0, 0)).1 ∷ [] = grind (arith, common_steps) in
    cnots-more c.args.pairs.now c.pairs.pair-index (0, 0) c.args.gates.now.items c.pairs.gates.items c.push.new.self.items c.pairs-test.true c.pairs.invariant pushed
