use Rattle.std.proofs.Common.{length}
use Rattle.gate_cancel.specs.Reductions.{IsCancelled}
use Rattle.gate_cancel.proofs.cancel_all.Given as goal

abbrev pub invariant-walks : goal.invariant-walks
invariant-walks l = record { so_far : IsCancelled l.fn.circuit l.circuit }

abbrev pub decreases-walks : goal.decreases-walks
decreases-walks l = length l.circuit.body.gates
