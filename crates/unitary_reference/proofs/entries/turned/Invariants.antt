use Rattle.std.proofs.Common.{◌≡◌}
use Rattle.unitary_model.specs.Ring.{turn}
use Rattle.unitary_reference.specs.Values.{ring_of}
use Rattle.unitary_reference.proofs.entries.turned.Given as goal

abbrev pub invariant-loop-step : goal.invariant-loop-step
invariant-loop-step l = ring_of l.value ≡ turn l.step (ring_of l.fn.v)
