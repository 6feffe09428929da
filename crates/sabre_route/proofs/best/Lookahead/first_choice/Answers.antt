use Rattle.std.proofs.Common.{◌<◌, get_or, length, subst, sym}
use Rattle.std.specs.Prelude.{IsTrue}
use Rattle.sabre_route.specs.Scores.{Judged, stands}
use Rattle.sabre_route.proofs.ScoreLaws.{stands-front}
use Rattle.sabre_route.proofs.best.Lookahead.first_choice.Goals as goal

pub choice-requires-clause-moves : goal.choice-requires-clause-moves
choice-requires-clause-moves c =
    let fs = c.self.inside.front.now in
    let some : 0 < length fs = subst (λ (v : Judged). 0 < length v.front) (sym c.self.view_is) c.requires.some in
    subst (λ (v : Judged). IsTrue (stands v.front (get_or fs 0 (0, 0)).0)) c.self.view_is (stands-front fs some)
