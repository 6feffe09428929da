use Rattle.std.proofs.Common.{◌≡◌, ◌<◌, ◌≤◌, ℕ, get_or, length, subst}
use Rattle.std.specs.Prelude.{IsTrue}
use Rattle.sabre_route.specs.Scores.{Judged, score_on, stands}
use Rattle.sabre_route.specs.Search.{IsNotAbove}
use Rattle.sabre_route.proofs.LookaheadLaws.{IsBest-seen}
use Rattle.sabre_route.proofs.ScoreLaws.{stands-ends, tried-all}
use Rattle.sabre_route.proofs.best.Lookahead.best.Goals as goal

-- the ends of the pair that is at hand
ends : (v w : Judged) (k : ℕ) → v ≡ w → k < length v.front → IsTrue (stands w.front (get_or v.front k (0, 0)).0) × IsTrue (stands w.front (get_or v.front k (0, 0)).1)
ends v w k same lt = subst (λ (x : Judged). IsTrue (stands x.front (get_or v.front k (0, 0)).0) × IsTrue (stands x.front (get_or v.front k (0, 0)).1)) same (stands-ends v.front k lt)

pub best_near-best-requires-clause-moves : goal.best_near-best-requires-clause-moves
best_near-best-requires-clause-moves c = (ends _ c.args.self.now c.pairs.pair-index c.self.view_is c.pairs-test.true).0

pub best_near-best-requires-in-pairs-clause-moves : goal.best_near-best-requires-in-pairs-clause-moves
best_near-best-requires-in-pairs-clause-moves c = (ends _ c.args.self.now c.pairs.pair-index c.self.view_is c.pairs-test.true).1

pub pairs-preserved : goal.pairs-preserved
pairs-preserved c =
    let one = c.best_near-best in
    let two = c.best_near-best-in-pairs in
    IsBest-seen _ c.args.self.now c.pairs.pair-index c.pairs.best one.result two.result c.self.view_is c.pairs-test.true c.pairs.invariant two.ensures.choice one.ensures.best two.ensures.best one.ensures.tried two.ensures.tried

pub returns : goal.returns
returns c =
    let o = c.args.self.now in
    let d = o.device in
    let fs = o.front in
    let es = o.extended in
    let best = c.pairs.best in
    let past : length fs ≤ c.pairs.pair-index = subst (λ (v : Judged). length v.front ≤ c.pairs.pair-index) c.self.view_is c.pairs-test.false in
    record {
      pair = c.pairs.invariant.choice.pair;
      least = λ x y pair.
          subst (λ (s : ℕ). IsNotAbove s best.a best.b (score_on d fs es x y) x y) c.pairs.invariant.choice.score
          (c.pairs.invariant.least x y (tried-all d.edges fs x y c.pairs.pair-index past pair) pair);
    }
