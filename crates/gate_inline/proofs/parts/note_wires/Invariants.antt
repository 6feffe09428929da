-- The first wires are put behind the others, and all of them are marked.
use Rattle.std.proofs.Common.{◌≡◌, map}
use Rattle.std.specs.Prelude.{fold}
use Rattle.gate_library.specs.Operands.{upto, wire_at}
use Rattle.gate_inline.specs.Parting.{AreMarked, with_wire}
use Rattle.gate_inline.proofs.parts.note_wires.Given as goal

abbrev pub invariant-wires : goal.invariant-wires
invariant-wires l = record {
  list : l.list.items ≡ fold with_wire l.initial.list.items (map (λ j. wire_at j l.operand) (upto l.j));
  marked : AreMarked l.marks l.list.items;
}
