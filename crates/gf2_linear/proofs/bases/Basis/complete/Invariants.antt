use Rattle.gf2_linear.specs.Bases.{pivots_of}
use Rattle.gf2_linear.proofs.CompletionLaws.{Placed}
use Rattle.gf2_linear.proofs.bases.Basis.complete.Given as goal

abbrev pub invariant-rows : goal.invariant-rows
invariant-rows l = Placed l.self-inside.rows.items (pivots_of l.self-inside.entries.items) l.wires l.place l.matrix
