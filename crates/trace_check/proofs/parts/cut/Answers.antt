use Rattle.std.proofs.Common.{◌∙◌, ap, arith}
use Rattle.std.specs.List.{remove}
use Rattle.trace_check.proofs.PartStepLaws.{cut-more}
use Rattle.trace_check.proofs.parts.cut.Goals as goal

pub gates-preserved : goal.gates-preserved
gates-preserved c = record {
  from = omega (arith, c.gates.invariant.from);
  wires = c.remove.ensures.wires ∙ c.gates.invariant.wires;
  gates =
      c.remove.ensures.gates ∙ ap (λ t. remove t c.args.first) c.gates.invariant.gates
      ∙ cut-more c.args.body.now.gates c.args.first c.gates._gone (omega (arith, c.requires.ordered, c.requires.within)) (omega (arith, c.gates-test.true, c.requires.within));
}
