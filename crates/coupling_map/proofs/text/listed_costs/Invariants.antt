use Rattle.std.proofs.Common.{ℕ, ℤ}
use Rattle.coupling_map.specs.Text.{cost_in}
use Rattle.coupling_map.proofs.TextLaws.{HasGone}
use Rattle.coupling_map.proofs.text.listed_costs.Given as goal

abbrev pub invariant-edges : goal.invariant-edges
invariant-edges l = HasGone (λ (e : ℕ × ℕ × ℤ). cost_in e.2) l.edges l.edge-index l.costs.items
