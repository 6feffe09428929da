use Rattle.std.proofs.Common.{◌≡◌, ◌∙◌, ◌<◌, ◌+◌, ℕ, List, length, get_or, sym, subst, arith}
use Rattle.std.specs.Prelude.{slice_index}
use Rattle.placement.proofs.InverseLaws.{written-more}
use Rattle.placement.proofs.inverse.Goals as goal

pub places-preserved : goal.places-preserved
places-preserved c =
    let list : List ℕ = c.args.list.now in
    let had = c.places.invariant in (
      c.write.ensures.long ∙ had.0,
      λ h.
          let low : slice_index list c.places.place < length c.places.places.items = omega (arith, h.within c.places.place c.places-test.true, had.0) in
          subst (λ (v : List ℕ). (i : ℕ) → i < c.places.place + 1 → slice_index v (slice_index list i) ≡ i) (sym (c.write.ensures.written low))
          (written-more list c.places.places.items c.places.place had.0 c.places-test.true low had.1 h),
    )
