use Rattle.std.proofs.Common.{List, Bool}
use Rattle.unitary_model.specs.declared.Op.{Op}
use Rattle.amplitude_exact.specs.Entries.{IsEntry}
use Rattle.amplitude_exact.specs.Values.{ring_of}
use Rattle.amplitude_exact.proofs.halving.reduced.Given as goal

abbrev pub invariant-halves : goal.invariant-halves
invariant-halves l = (us : List Op) (x y : List Bool) → IsEntry us x y (ring_of l.fn.value) l.power → IsEntry us x y (ring_of l.v) l.e

abbrev pub decreases-halves : goal.decreases-halves
decreases-halves l = l.e
