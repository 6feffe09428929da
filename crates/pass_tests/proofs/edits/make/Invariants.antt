use Rattle.std.proofs.Common.{◌≡◌}
use Rattle.pass_tests.proofs.edits.make.Given as goal

abbrev pub invariant-edits : goal.invariant-edits
invariant-edits l = l.body.wires ≡ l.wires
