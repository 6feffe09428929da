-- The bytes so far, and then the trace of the text that is left.
use Rattle.std.proofs.Common.{◌≡◌, ◌++◌, length}
use Rattle.trace_text.specs.Texts.{trace_of}
use Rattle.trace_text.proofs.trace.trace_of.Given as goal

abbrev pub invariant-lines : goal.invariant-lines
invariant-lines l = record { trace : trace_of l.text ≡ l.trace.items ++ trace_of l.rest }

abbrev pub decreases-lines : goal.decreases-lines
decreases-lines l = length l.rest
