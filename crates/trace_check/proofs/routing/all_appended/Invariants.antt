-- The gates so far were appended.
use Rattle.std.proofs.Common.{take}
use Rattle.trace_check.specs.Progress.{Grows}
use Rattle.trace_check.proofs.routing.all_appended.Given as goal

abbrev pub invariant-gates : goal.invariant-gates
invariant-gates l = Grows l.goal.gates l.fn.agreed (take l.place l.gates) l.now
