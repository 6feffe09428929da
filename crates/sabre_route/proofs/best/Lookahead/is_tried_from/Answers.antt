use Rattle.std.proofs.Common.{◌∙◌}
use Rattle.sabre_route.proofs.ScoreLaws.{stands-partner}
use Rattle.sabre_route.proofs.LookaheadLaws.{IsLookahead-seen, apart-tested}
use Rattle.sabre_route.proofs.best.Lookahead.is_tried_from.Goals as goal

pub returns-then-near-a : goal.returns-then-near-a
returns-then-near-a c = record {
  value = λ t.
      let o = c.args.self.now in
      let k = IsLookahead-seen _ o _ _ _ _ _ c.self.view_is c.self.invariant in (
        c.if-near-a.true,
        stands-partner o.front c.args.near (λ e. apart-tested _ c.args.near t (k.partners c.args.near c.requires.near ∙ e)),
      );
}
