use Rattle.std.proofs.Common.{◌∙◌, ◌*◌, ◌+◌, length, max, sym}
use Rattle.sabre_route.specs.Scores.{score_on}
use Rattle.sabre_route.proofs.NearerLaws.{score-ordered}
use Rattle.sabre_route.proofs.ScoreLaws.{near-ordered}
use Rattle.sabre_route.proofs.best.Lookahead.choice.Goals as goal

pub returns-clause-choice : goal.returns-clause-choice
unfolding score_on
returns-clause-choice c =
    let d = c.args.self.now.device in
    let fs = c.args.self.now.front in
    let es = c.args.self.now.extended in
    let a = c.args.a in
    let b = c.args.b in
    record {
      pair = near-ordered d.edges fs a b c.min.result c.max.result c.requires.near c.requires.apart c.requires.moves c.min.ensures c.max.ensures;
      score = c.weighed.ensures.score ∙ (λ z. 2 * max 1 (length es) * c.requires.total z + length fs * c.extended_after.ensures.total z)
          ∙ sym (score-ordered d fs es a b) ∙ (λ z. score_on d fs es (sym c.min.ensures z) (sym c.max.ensures z));
    }
