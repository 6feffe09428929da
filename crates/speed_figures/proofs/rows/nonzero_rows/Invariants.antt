use Rattle.std.proofs.Common.{◌≡◌}
use Rattle.std.specs.Prelude.{All}
use Rattle.speed_figures.proofs.rows.nonzero_rows.Given as goal

abbrev pub invariant-masks : goal.invariant-masks
invariant-masks l = All (λ r. r ≡ 0 → ⊥) l.rows.items
