-- The circuit keeps its wires.
use Rattle.std.proofs.Common.{◌≡◌}
use Rattle.text_tests.proofs.writer_tests.long_body.Given as goal

abbrev pub invariant-gates : goal.invariant-gates
invariant-gates l = l.body.wires ≡ 12
