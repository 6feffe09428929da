use Rattle.std.proofs.Common.{◌<◌, sym, subst, map, ◌∙◌}
use Rattle.std.specs.Prelude.{nat_eq}
use Rattle.gate_library.specs.Names.{has_repeat}
use Rattle.gate_library.specs.Operands.{broadcast, wire_at}
use Rattle.gate_library.proofs.OperandLaws.{list_any_upto_at}
use Rattle.gate_library.proofs.operand.repeats_wire.Goals as goal

pub returns-then-branch : goal.returns-then-branch
returns-then-branch c = record {
  ok =
      let below : c.indices.j < broadcast c.args.operands.now = subst (λ n. c.indices.j < n) c.broadcast-j-end.ensures.value c.indices-test.true in
      sym (list_any_upto_at (λ j. has_repeat nat_eq (map (wire_at j) c.args.operands.now)) (broadcast c.args.operands.now) c.indices.j below
      (sym c.in_ok-repeats_at.ensures ∙ c.if-branch.true));
}
