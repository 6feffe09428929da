use Rattle.std.proofs.Common.{List, ℕ, All, Contains, subst}
use Rattle.gf2_linear.proofs.sums.complete.Goals as goal

pub returns-clause-each : goal.returns-clause-each
returns-clause-each c = subst (λ (k : List ℕ). All (Contains c.in_ok-matrix.matrix) k) c.in_ok-basis.ensures.ok c.in_ok-matrix.ensures.each
