use Rattle.std.proofs.Common.{◌≡◌, ◌+◌, ◌%◌, drop}
use Rattle.std.specs.Prelude.{bit_and, count_ones}
use Rattle.gf2_linear.specs.Words.{number_of}
use Rattle.gf2_linear.proofs.rows.Row.is_odd_on.Given as goal

abbrev pub invariant-loop-k : goal.invariant-loop-k
invariant-loop-k l =
    (count_ones l.common + count_ones (bit_and (number_of (drop l.k l.self-inside.words)) (number_of (drop l.k l.other-inside.words)))) % 2
    ≡ count_ones (bit_and (number_of l.self-inside.words) (number_of l.other-inside.words)) % 2
