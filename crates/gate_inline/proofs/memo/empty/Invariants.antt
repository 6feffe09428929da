-- No call is kept so far.
use Rattle.std.proofs.Common.{List}
use Rattle.unitary_model.specs.declared.Op.{Op}
use Rattle.gate_library.specs.Gates.{BoundGate}
use Rattle.gate_inline.specs.Remembered.{AreKept}
use Rattle.gate_inline.proofs.memo.empty.Given as goal

abbrev pub invariant-places : goal.invariant-places
invariant-places l = (gates : List BoundGate) (us : List Op) → AreKept gates us l.places.items
