use Rattle.std.proofs.Common.{◌≡◌, take}
use Rattle.test_circuits.proofs.gates.gates_of.Given as goal

abbrev pub invariant-places : goal.invariant-places
invariant-places l = l.gates.items ≡ take l.i l.body.gates
