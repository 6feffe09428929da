-- The operations for the first indices are written.
use Rattle.gate_inline.specs.Meanings.{broadcast_answer, meanings}
use Rattle.gate_inline.specs.Progress.{HasWritten, gates_of}
use Rattle.gate_inline.proofs.inliner.Inliner.write_broadcast.Given as goal

abbrev pub invariant-indices : goal.invariant-indices
invariant-indices l = HasWritten l.fn.self (broadcast_answer (meanings (gates_of l.fn.self)) l.gate l.angles l.places l.j) l.self
