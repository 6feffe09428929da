use Rattle.std.proofs.Common.{◌≡◌, ◌<◌, ◌+◌, ◌⊎◌, ℕ, arith, false, slice_index, subst, sym}
use Rattle.std.specs.Prelude.{IsTrue}
use Rattle.coupling_map.specs.Walks.{is_near}
use Rattle.sabre_route.specs.Scores.{HasTried, Judged, stands}
use Rattle.sabre_route.proofs.DistanceLaws.{near-differ}
use Rattle.sabre_route.proofs.NearerLaws.{IsBestAt, near-left, near-step}
use Rattle.sabre_route.proofs.ScoreLaws.{near-index, not_above-refl}
use Rattle.sabre_route.proofs.best.Lookahead.best_near.Goals as goal
use Rattle.sabre_route.proofs.best.Lookahead.best_near.Goals.{then-not-is_tried_from, else-not-is_tried_from}
use Rattle.sabre_route.specs.declared.best.Choice.{Choice}

pub tried-best-requires-clause-apart : goal.tried-best-requires-clause-apart
tried-best-requires-clause-apart c =
    let e = c.neighbours-nears.ensures.neighbours.each c.near.near-index 0 c.near-test.true in
    near-differ c.self.inside.device.now c.args.a _ c.self.invariant.metric e.1

pub near-init : goal.near-init
near-init c = (c.requires.best, (not_above-refl c.args.given.score c.args.given.a c.args.given.b, λ j lt. absurd (omega (arith, lt))))

pub near-preserved : goal.near-preserved
near-preserved c =
    let o = c.args.self.now in
    let nears = c.neighbours-nears.result.now in
    let k = c.near.near-index in
    let old = c.near.best in
    elim c.if-not-is_tried_from.branch [
      | then-not-is_tried_from w ↦ subst (λ (new : Choice). IsBestAt o.device o.front o.extended c.args.given new c.args.a (k + 1) nears) (sym w.best-is)
          (near-step o.device o.front o.extended c.args.given old w.tried-best.result c.args.a k nears w.tried-best.ensures.choice w.tried-best.ensures.best c.near.invariant (λ mine. w.tried-best.ensures.tried))
      | else-not-is_tried_from w ↦ subst (λ (new : Choice). IsBestAt o.device o.front o.extended c.args.given new c.args.a (k + 1) nears) (sym w.best-is)
          (near-step o.device o.front o.extended c.args.given old old c.args.a k nears c.near.invariant.0 (not_above-refl old.score old.a old.b) c.near.invariant
          (λ mine. absurd (near-left o.front c.args.a (slice_index nears k) (c.is_tried_from.ensures.value w.if-not-is_tried_from.false) mine)))
    ]

pub returns-clause-tried : goal.returns-clause-tried
returns-clause-tried c x near mine =
    let o = c.args.self.now in
    let there : IsTrue (is_near c.self.inside.device.now.edges c.args.a x) = subst (λ (v : Judged). IsTrue (is_near v.device.edges c.args.a x)) (sym c.self.view_is) near in
    let below = c.self.invariant.metric.near c.args.a x there in
    let at = near-index c.neighbours-nears.result.now x (c.neighbours-nears.ensures.neighbours.every x below.1 there) in
    subst (λ (y : ℕ). (c.args.a < y) ⊎ (stands o.front y ≡ false) → HasTried o.device o.front o.extended c.near.best c.args.a y) at.2 (c.near.invariant.1.1 at.0 (omega (arith, at.1, c.near-test.false))) mine
