use Rattle.std.proofs.Common.{◌≡◌, ◌<◌, ◌⊎◌, ℕ, false, slice_index}
use Rattle.sabre_route.specs.Scores.{HasTried, IsChoice, stands}
use Rattle.sabre_route.specs.Search.{IsNotAbove}
use Rattle.sabre_route.proofs.best.Lookahead.best_near.Given as goal

abbrev pub invariant-near : goal.invariant-near
invariant-near l = IsChoice l.self.device l.self.front l.self.extended l.best
    × (IsNotAbove l.best.score l.best.a l.best.b l.fn.given.score l.fn.given.a l.fn.given.b
    × ((j : ℕ) → j < l.near-index → (l.a < slice_index l.nears j) ⊎ (stands l.self.front (slice_index l.nears j) ≡ false) → HasTried l.self.device l.self.front l.self.extended l.best l.a (slice_index l.nears j)))
