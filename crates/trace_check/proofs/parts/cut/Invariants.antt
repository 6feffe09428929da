-- The gates so far are taken out.
use Rattle.std.proofs.Common.{◌≡◌, ◌≤◌, ◌++◌, drop, take}
use Rattle.trace_check.proofs.parts.cut.Given as goal

abbrev pub invariant-gates : goal.invariant-gates
invariant-gates l = record { from : l.first ≤ l._gone; wires : l.body.wires ≡ l.fn.body.wires; gates : l.body.gates ≡ take l.first l.fn.body.gates ++ drop l._gone l.fn.body.gates }
