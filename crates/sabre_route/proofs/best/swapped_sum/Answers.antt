use Rattle.std.proofs.Common.{◌≡◌, ◌∙◌, ◌+◌, ◌<◌, ◌||◌, ap, cond, length, suc, sym, subst, arith}
use Rattle.std.proofs.lemmas.Nat.Bits.{bit_at-zero}
use Rattle.std.specs.Int.{bit_at}
use Rattle.coupling_map.specs.Coupling.{dist}
use Rattle.unitary_model.proofs.PlacementLaws.{exchanged-below}
use Rattle.sabre_route.specs.Scores.{has_end}
use Rattle.sabre_route.proofs.SwapLaws.{bit-untold, bit_at-shifted, midway, midway-has, midway-more, midway-none, midway-rest, midway-short, midway-skip, within-told}
use Rattle.sabre_route.proofs.best.swapped_sum.Goals as goal
use Rattle.sabre_route.proofs.best.swapped_sum.Goals.{After-lowest-skipped}

pub touched-init : goal.touched-init
touched-init c =
    (c.requires.sum ∙ sym (midway-none c.args.device.now c.args.a c.args.b c.args.pairs.now), (omega arith, λ i. c.requires.touched i ∙ ap (λ j. cond (has_end c.args.pairs.now j c.args.a || has_end c.args.pairs.now j c.args.b) 1 0) (omega arith)))

-- the pair whose bit is the lowest one
found : (c : After-lowest-skipped) → c.touched.first + c.lowest-skipped.result < length c.args.pairs.now
found c =
    within-told c.args.pairs.now (c.touched.first + c.lowest-skipped.result) c.args.a c.args.b
    (sym (c.touched.invariant.1.1 c.lowest-skipped.result) ∙ c.lowest-skipped.ensures.on)

-- those before it stay as they are
skipped : (c : After-lowest-skipped) → c.touched.sum ≡ midway c.args.device.now c.args.a c.args.b c.args.pairs.now (c.touched.first + c.lowest-skipped.result)
skipped c =
    c.touched.invariant.0
    ∙ sym (midway-skip c.args.device.now c.args.a c.args.b c.args.pairs.now c.touched.first c.lowest-skipped.result
    (λ i lt. bit-untold (has_end c.args.pairs.now (c.touched.first + i) c.args.a || has_end c.args.pairs.now (c.touched.first + i) c.args.b) (sym (c.touched.invariant.1.1 i) ∙ c.lowest-skipped.ensures.none i lt)))

pub bounds-pairs-number : goal.bounds-pairs-number
bounds-pairs-number c = found (goal.at.bounds-pairs-number c).After-lowest-skipped

pub bounds-pairs-number-in-touched : goal.bounds-pairs-number-in-touched
bounds-pairs-number-in-touched c = found (goal.at.bounds-pairs-number-in-touched c).After-lowest-skipped

pub overflow_sub-sum : goal.overflow_sub-sum
overflow_sub-sum c =
    let at = (goal.at.overflow_sub-sum c).After-lowest-skipped in
    omega (arith, skipped at, midway-has c.args.device.now c.args.a c.args.b c.args.pairs.now (c.touched.first + c.lowest-skipped.result) (found at), c.distance.ensures.distance)

pub distance-requires-in-touched-clause-first : goal.distance-requires-in-touched-clause-first
distance-requires-in-touched-clause-first c =
    let w = c.requires.within (c.touched.first + c.lowest-skipped.result) (0, 0) (found (goal.at.distance-requires-in-touched-clause-first c).After-lowest-skipped) in
    subst (λ k. k < c.args.device.now.size) (sym c.moved.ensures) (exchanged-below c.args.device.now.size c.args.a c.args.b _ c.requires.first c.requires.second w.0)

pub distance-requires-in-touched-clause-second : goal.distance-requires-in-touched-clause-second
distance-requires-in-touched-clause-second c =
    let w = c.requires.within (c.touched.first + c.lowest-skipped.result) (0, 0) (found (goal.at.distance-requires-in-touched-clause-second c).After-lowest-skipped) in
    subst (λ k. k < c.args.device.now.size) (sym c.moved-in-touched.ensures) (exchanged-below c.args.device.now.size c.args.a c.args.b _ c.requires.first c.requires.second w.1)

pub overflow_add-sum : goal.overflow_add-sum
overflow_add-sum c =
    let at = (goal.at.overflow_add-sum c).After-lowest-skipped in
    omega (
      arith,
      skipped at,
      midway-short c.args.device.now c.args.a c.args.b c.args.pairs.now (c.touched.first + c.lowest-skipped.result) c.requires.metric c.requires.first c.requires.second c.requires.within,
      c.requires.pairs_limit,
      c.distance-in-touched.ensures.short,
    )

pub touched-preserved : goal.touched-preserved
touched-preserved c =
    let at = (goal.at.touched-preserved c).After-lowest-skipped in
    let d = c.args.device.now in
    let a = c.args.a in
    let b = c.args.b in
    let ps = c.args.pairs.now in
    let k = c.touched.first + c.lowest-skipped.result in
    let next : k + 1 ≡ suc k = omega arith in (
      omega (
        arith,
        skipped at,
        midway-has d a b ps k (found at),
        midway-more d a b ps k (found at),
        ap (midway d a b ps) next,
        c.distance.ensures.distance,
        c.distance-in-touched.ensures.distance ∙ (λ z. dist d (c.moved.ensures z) (c.moved-in-touched.ensures z)),
      ),
      (
        omega (arith, found at),
        λ i.
            bit_at-shifted c.touched.left c.lowest-skipped.result i ∙ c.touched.invariant.1.1 (c.lowest-skipped.result + 1 + i)
            ∙ ap (λ j. cond (has_end ps j a || has_end ps j b) 1 0) (omega arith),
      ),
    )

pub returns-clause-total : goal.returns-clause-total
returns-clause-total c =
    c.touched.invariant.0
    ∙ midway-rest c.args.device.now c.args.a c.args.b c.args.pairs.now c.touched.first
    (λ i. bit-untold (has_end c.args.pairs.now (c.touched.first + i) c.args.a || has_end c.args.pairs.now (c.touched.first + i) c.args.b) (sym (c.touched.invariant.1.1 i) ∙ ap (λ n. bit_at n i) c.touched-test.false ∙ bit_at-zero i))

pub returns-clause-short : goal.returns-clause-short
returns-clause-short c =
    omega (arith, c.touched.invariant.0, midway-short c.args.device.now c.args.a c.args.b c.args.pairs.now c.touched.first c.requires.metric c.requires.first c.requires.second c.requires.within)
