use Rattle.std.proofs.Common.{take, length}
use Rattle.trace_check.proofs.WordLaws.{IsSplit}
use Rattle.trace_check.proofs.words.split_words.Given as goal

abbrev pub invariant-numbers : goal.invariant-numbers
invariant-numbers l = IsSplit l.fn.line (take l.size l.fn.line) l.numbers.items l.rest

abbrev pub decreases-numbers : goal.decreases-numbers
decreases-numbers l = length l.rest
