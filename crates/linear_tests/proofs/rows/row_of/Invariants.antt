use Rattle.std.proofs.Common.{◌<◌, ◌^◌}
use Rattle.linear_tests.proofs.rows.row_of.Given as goal

abbrev pub invariant-wires : goal.invariant-wires
invariant-wires l = l.row < 2 ^ 3
