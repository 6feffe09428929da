use Rattle.std.proofs.Common.{◌≡◌, ◌++◌, ◌^◌, min}
use Rattle.qasm_lexer.specs.Numbers.{front_number}
use Rattle.qasm_lexer.proofs.number.head.Given as goal

abbrev pub invariant-loop-place : goal.invariant-loop-place
invariant-loop-place l = l.number ≡ min (front_number (l.whole ++ l.part) l.place) (2 ^ 63)
