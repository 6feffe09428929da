-- One wire more.
use Rattle.std.proofs.Common.{sym, ◌∙◌}
use Rattle.gate_inline.specs.Parting.{with_wire}
use Rattle.gate_inline.proofs.BarLaws.{no_wires, noted_wire}
use Rattle.gate_inline.proofs.parts.note_wires.Goals as goal

pub wires-init : goal.wires-init
wires-init c = record { list = sym (no_wires _ _); marked = c.requires.marked }

pub wires-preserved : goal.wires-preserved
wires-preserved c = record {
  list = c.in_ok-note_wire.ensures.list ∙ (λ i. with_wire (c.wires.invariant.list i) (c.wire_at.ensures.value i)) ∙ sym (noted_wire _ _ c.wires.j);
  marked = c.in_ok-note_wire.ensures.marked;
}
