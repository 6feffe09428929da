use Rattle.std.proofs.Common.{◌≡◌, ℕ, ◌+◌, inl, inr, refl, subst, suc, arith}
use Rattle.sabre_route.specs.Looking.{IsFollowing}
use Rattle.sabre_route.proofs.FollowLaws.{following-done}
use Rattle.sabre_route.proofs.lookout.follow_all.Goals as goal

pub met-preserved : goal.met-preserved
met-preserved c =
    let i = c.met.invariant in
    let f = c.follow-met.ensures in
    record {
      within = omega (arith, c.met-test.true, f.more);
      more = omega (arith, i.more, f.more);
      few = f.few;
      long = omega (arith, i.long, c.follow-met.auto.places);
      wide = omega (arith, i.wide, c.follow-met.auto.reach);
      there = f.there;
      way = λ heads e first h.
          subst (λ (k : ℕ). IsFollowing c.args.cnots.now heads e first k c.follow-met.result c.args.limit c.follow-met.new.places c.follow-met.new.reach) (one c.met.next)
          (f.way heads e first c.met.next c.met-test.true refl (i.way heads e first h));
    }
  where
    one : (k : ℕ) → suc k ≡ k + 1
    one k = omega arith

pub returns-else-met-limit-clause-met : goal.returns-else-met-limit-clause-met
returns-else-met-limit-clause-met c = λ heads e first h.
    following-done c.args.cnots.now heads e first c.met.next c.met.met c.args.limit c.met.places c.met.reach (c.met.invariant.way heads e first h) (inr c.if-met-limit.false)

pub returns-after-met-clause-met : goal.returns-after-met-clause-met
returns-after-met-clause-met c = λ heads e first h.
    following-done c.args.cnots.now heads e first c.met.next c.met.met c.args.limit c.met.places c.met.reach (c.met.invariant.way heads e first h) (inl c.met-test.false)
