use Rattle.std.proofs.Common.{◌∙◌, ◌++◌, ◌∷◌, [], List, ap, arith, sym}
use Rattle.circuit_list.specs.declared.Gate.{Gate}
use Rattle.trace_check.proofs.PartStepLaws.{slice_of-more, slice_of-none}
use Rattle.trace_check.proofs.parts.part.Goals as goal

pub gates-init : goal.gates-init
gates-init c = record { from = omega arith; wires = c.in_ok-made.ensures.wires ∙ c.wires.ensures.wires; gates = c.in_ok-made.ensures.gates ∙ sym (slice_of-none c.args.body.now.gates c.args.first) }

pub gates-preserved : goal.gates-preserved
gates-preserved c =
    let gs : List Gate = c.args.body.now.gates in
    let g : Gate = c.gate.result in
    record {
      from = omega (arith, c.gates.invariant.from);
      wires = c.in_ok-push.ensures.wires ∙ c.gates.invariant.wires;
      gates =
          c.in_ok-push.ensures.gates ∙ ap (λ t. t ++ g ∷ []) c.gates.invariant.gates
          ∙ sym (slice_of-more gs c.args.first c.gates.place g c.gates.invariant.from c.gate.ensures.there);
    }
