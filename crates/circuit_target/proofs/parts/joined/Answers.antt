-- The gates of one part more.
use Rattle.std.proofs.Common.{◌∙◌}
use Rattle.circuit_target.proofs.PartLaws.{joined-more}
use Rattle.circuit_target.proofs.parts.joined.Goals as goal

pub parts-preserved : goal.parts-preserved
parts-preserved c = record {
  wires = c.in_ok-append.ensures.wires ∙ c.parts.invariant.wires;
  gates = joined-more c.args.made.now c.parts.part-index c.part-item.result c.parts.body.gates c.append.new.body.gates c.parts-test.true c.part-item.is
      c.parts.invariant.gates c.in_ok-append.ensures.gates;
}
