-- The wires so far.
use Rattle.std.proofs.Common.{◌≡◌, map, take}
use Rattle.gate_library.specs.Operands.{wire_at as wire_there}
use Rattle.gate_inline.proofs.inliner.wires_at.Given as goal

abbrev pub invariant-places : goal.invariant-places
invariant-places l = l.list.items ≡ map (wire_there l.j) (take l.place-index l.places)
