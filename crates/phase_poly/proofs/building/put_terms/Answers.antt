use Rattle.std.proofs.Common.{◌≡◌, ◌<◌, Contains, List, length, slice_index_or, subst, sym, ◌∙◌, ap, arith}
use Rattle.std.proofs.lemmas.Grind.{common_steps}
use Rattle.phase_poly.specs.Polys.{Term}
use Rattle.phase_poly.specs.Resynthesis.{IsBuilt}
use Rattle.phase_poly.proofs.BuildingLaws.{term_rows-length, term_rows-get, places-more}
use Rattle.phase_poly.proofs.building.put_terms.Goals as goal

pub put_term-requires-clause-stands : goal.put_term-requires-clause-stands
put_term-requires-clause-stands c =
    let term : c.index-terms-place.result ≡ slice_index_or c.args.terms.now (slice_index_or c.args.block.now c.places.place-index 0) (0, 0) = grind (arith, common_steps) in
    subst (Contains c.args.held.now) (term_rows-get c.args.terms.now c.args.block.now c.places.place-index 0 0 c.places-test.true ∙ ap (λ (e : Term). e.0) (sym term))
    (c.requires.rows c.places.place-index 0 (subst (λ m. c.places.place-index < m) (sym (term_rows-length c.args.terms.now c.args.block.now)) c.places-test.true))

pub places-preserved : goal.places-preserved
places-preserved c =
    let term : c.index-terms-place.result ≡ slice_index_or c.args.terms.now (slice_index_or c.args.block.now c.places.place-index 0) (0, 0) = grind (arith, common_steps) in
    record {
      built = λ done h. subst (λ (ts : List Term). IsBuilt (length c.args.held.now) c.put_term.new.gates.items c.args.held.now ts)
          (places-more c.args.terms.now c.args.block.now c.places.place-index 0 done c.index-terms-place.result c.places-test.true term)
          (c.in_ok-put_term.ensures.built _ (c.places.invariant.built done h));
      same = c.in_ok-put_term.ensures.same ∙ c.places.invariant.same;
    }
