-- The lines of the first gates' bodies.
use Rattle.std.proofs.Common.{◌≡◌, map, take}
use Rattle.linear_forms.specs.Lines.{gate_body}
use Rattle.linear_forms.proofs.line.bodies_of.Given as goal

abbrev pub invariant-gates : goal.invariant-gates
invariant-gates l = map (λ b. b.items) l.list.items ≡ map gate_body (take l.gate-index l.gates)
