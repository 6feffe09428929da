-- What is still marked is a wire behind.
use Rattle.std.proofs.Common.{drop}
use Rattle.gate_inline.specs.Parting.{AreLeft}
use Rattle.gate_inline.proofs.parts.unmark.Given as goal

abbrev pub invariant-wires : goal.invariant-wires
invariant-wires l = AreLeft l.marks (drop l.wire-index l.list)
