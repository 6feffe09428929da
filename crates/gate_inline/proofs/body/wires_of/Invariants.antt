-- The wires so far.
use Rattle.std.proofs.Common.{◌≡◌, map, take}
use Rattle.gate_inline.specs.Meanings.{wire_of as wire_there}
use Rattle.gate_inline.proofs.body.wires_of.Given as goal

abbrev pub invariant-places : goal.invariant-places
invariant-places l = l.list.items ≡ map (wire_there l.wires) (take l.place-index l.places)
