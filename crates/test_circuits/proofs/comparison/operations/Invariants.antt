use Rattle.std.proofs.Common.{◌≡◌, take}
use Rattle.circuit_list.specs.Gates.{ops}
use Rattle.test_circuits.proofs.comparison.operations.Given as goal

abbrev pub invariant-places : goal.invariant-places
invariant-places l = l.ops.items ≡ ops (take l.i l.body.gates)
