-- The wires of the first operands, which are marked.
use Rattle.std.proofs.Common.{◌≡◌, [], take}
use Rattle.std.specs.Prelude.{fold}
use Rattle.std.specs.List.{flat_map}
use Rattle.gate_library.specs.Operands.{wires_of}
use Rattle.gate_inline.specs.Parting.{AreMarked, with_wire}
use Rattle.gate_inline.proofs.parts.named_wires.Given as goal

abbrev pub invariant-operands : goal.invariant-operands
invariant-operands l = record {
  list : l.list.items ≡ fold with_wire [] (flat_map wires_of (take l.operand-index l.operands));
  marked : AreMarked l.marks l.list.items;
}
