use Rattle.std.proofs.Common.{◌-◌, ◌^◌, ◌++◌}
use Rattle.qasm_lexer.specs.Numbers.{front_number}
use Rattle.qasm_lexer.proofs.TailLaws.{IsTail}
use Rattle.qasm_lexer.proofs.number.placed.Given as goal

abbrev pub invariant-loop-done : goal.invariant-loop-done
invariant-loop-done l =
    IsTail (front_number (l.whole ++ l.part) (l.total - l.done)) (front_number (l.whole ++ l.part) l.total) (10 ^ l.done) l.tail
