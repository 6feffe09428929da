use Rattle.std.proofs.Common.{◌≤◌, List, ℕ, length, subst, ◌≡◌, true}
use Rattle.gf2_linear.specs.Rows.{is_independent}
use Rattle.gf2_linear.proofs.WireLaws.{free-few}
use Rattle.gf2_linear.proofs.BasisLaws.{free-Free}
use Rattle.gf2_linear.proofs.Ranks.{Free-independent}
use Rattle.gf2_linear.proofs.bases.Basis.facts.Goals as goal

pub returns-clause-rank_limit : goal.returns-clause-rank_limit
returns-clause-rank_limit c =
    subst (λ (r : List ℕ). length r ≤ 256) c.self.view_is
    (free-few 256 c.self.inside.rows.items c.self.invariant.below (free-Free c.self.inside.rows.items c.self.invariant.free))

pub returns-clause-independent : goal.returns-clause-independent
returns-clause-independent c =
    subst (λ (r : List ℕ). is_independent r ≡ true) c.self.view_is
    (Free-independent c.self.inside.rows.items (free-Free c.self.inside.rows.items c.self.invariant.free))
