-- The gates so far are there.
use Rattle.std.proofs.Common.{◌≡◌, ◌≤◌}
use Rattle.trace_model.specs.Proves.{slice_of}
use Rattle.trace_check.proofs.parts.part.Given as goal

abbrev pub invariant-gates : goal.invariant-gates
invariant-gates l = record { from : l.first ≤ l.place; wires : l.made.wires ≡ l.body.wires; gates : l.made.gates ≡ slice_of l.body.gates l.first l.place }
