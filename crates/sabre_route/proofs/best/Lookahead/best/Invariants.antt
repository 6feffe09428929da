use Rattle.sabre_route.specs.Scores.{IsBest}
use Rattle.sabre_route.proofs.ScoreLaws.{IsTriedAt}
use Rattle.sabre_route.proofs.best.Lookahead.best.Given as goal

abbrev pub invariant-pairs : goal.invariant-pairs
invariant-pairs l = IsBest l.self.device l.self.front l.self.extended (IsTriedAt l.self.front l.pair-index) l.best
