-- The terms kept so far.
use Rattle.std.proofs.Common.{◌≡◌, not, take}
use Rattle.std.specs.Prelude.{◌==◌, filter}
use Rattle.phase_poly.proofs.walk.nonzero.Given as goal

abbrev pub invariant-terms : goal.invariant-terms
invariant-terms l = l.kept.items ≡ filter (λ e. not (e.1 == 0)) (take l.i l.terms.entries)
