-- No gate was added. Each change takes an H away.
use Rattle.std.proofs.Common.{◌≤◌, length}
use Rattle.circuit_list.specs.Gates.{h_count}
use Rattle.rewrite_pass.specs.Derivations.{IsContinued}
use Rattle.rewrite_pass.proofs.sweep.sweep_all.Given as goal

abbrev pub invariant-changes : goal.invariant-changes
invariant-changes g l = record {
  continued : IsContinued l.fn.circuit l.circuit;
  shorter : length l.circuit.body.gates ≤ length l.fn.circuit.body.gates;
}

abbrev pub decreases-changes : goal.decreases-changes
decreases-changes g l = h_count l.circuit.body.gates
