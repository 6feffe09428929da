use Rattle.std.proofs.Common.{◌≡◌, ◌^◌, min}
use Rattle.qasm_lexer.specs.Numbers.{front_number}
use Rattle.qasm_lexer.proofs.number.exponent_size.Given as goal

abbrev pub invariant-loop-byte : goal.invariant-loop-byte
invariant-loop-byte l = l.size ≡ min (front_number l.digits l.byte-index) (2 ^ 40)
