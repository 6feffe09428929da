use Rattle.std.proofs.Common.{◌≡◌, [], ◌∷◌, ◌++◌, slice_index_or, arith}
use Rattle.std.proofs.lemmas.Grind.{common_steps}
use Rattle.circuit_list.specs.declared.Gate.TheVariants.{P}
use Rattle.spare_layers.specs.Weaving.{first_place}
use Rattle.spare_layers.proofs.PlacedLaws.{phases-more}
use Rattle.spare_layers.proofs.weaving.put_terms.Goals as goal

pub places-preserved : goal.places-preserved
places-preserved c =
    let term : c.index-terms-place.result ≡ slice_index_or c.args.terms.now (slice_index_or c.args.block.now c.places.place-index 0) (0, 0) = grind (arith, common_steps) in
    let pushed : c.put_term.new.gates.items ≡ c.places.gates.items ++ P c.index-terms-place.result.1 (first_place c.index-terms-place.result.0 c.args.held.now) ∷ [] = c.in_ok-put_term.ensures in
    phases-more c.args.held.now c.args.terms.now c.args.block.now c.places.place-index 0 c.index-terms-place.result c.args.gates.now.items c.places.gates.items c.put_term.new.gates.items
    c.places-test.true c.places.invariant term pushed
