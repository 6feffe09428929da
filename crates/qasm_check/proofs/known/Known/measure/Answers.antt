use Rattle.std.proofs.Common.{true, cond, ◌||◌, ap, sym, ◌∙◌}
use Rattle.std.specs.Prelude.{nat_eq}
use Rattle.std.specs.Cmp.{nat_eq_equiv}
use Rattle.std.specs.BTreeSet.{contains}
use Rattle.std.specs.Ordering.{nat_cmp}
use Rattle.gate_library.specs.Operands.{wire_at}
use Rattle.gate_library.proofs.OperandLaws.{list_any_upto_more}
use Rattle.gate_library.proofs.RepeatLaws.{contains-updates}
use Rattle.qasm_check.proofs.StateLaws.{mark_more}
use Rattle.qasm_check.proofs.known.Known.measure.Goals as goal

pub wires-preserved : goal.wires-preserved
wires-preserved c = record {
  same = λ wire.
      mark_more (contains nat_cmp c.args.self.now.measured wire) _ (nat_eq wire (wire_at c.wires.j c.args.operand.now)) _ _ (c.wires.invariant.same wire)
      (contains-updates _ _ _ c.in_ok-insert.ensures.updates wire
      ∙ ap (λ b. cond b true (contains nat_cmp c.wires.self.measured wire)) (nat_eq_equiv.symm _ wire ∙ ap (nat_eq wire) c.wire_at.ensures.value))
      ∙ ap (λ b. contains nat_cmp c.args.self.now.measured wire || b) (sym (list_any_upto_more (λ j. nat_eq wire (wire_at j c.args.operand.now)) c.wires.j));
  declared = c.wires.invariant.declared;
  included = c.wires.invariant.included;
  gates = c.wires.invariant.gates;
  wires = c.wires.invariant.wires;
  bits = c.wires.invariant.bits;
}
