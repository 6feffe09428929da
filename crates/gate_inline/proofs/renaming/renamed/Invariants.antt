-- The wire is none of the first.
use Rattle.std.proofs.Common.{◌≡◌, drop, map}
use Rattle.gate_library.specs.Operands.{wire_at as wire_there}
use Rattle.gate_inline.specs.Renaming.{renamed}
use Rattle.gate_inline.proofs.renaming.renamed.Given as goal

abbrev pub invariant-wires : goal.invariant-wires
invariant-wires l = renamed l.from (map (wire_there l.j) l.places) l.wire ≡ renamed (drop l.i l.from) (drop l.i (map (wire_there l.j) l.places)) l.wire
