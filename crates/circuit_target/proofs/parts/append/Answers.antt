-- One gate more.
use Rattle.std.proofs.Common.{◌∙◌}
use Rattle.circuit_target.proofs.PartLaws.{gates-more}
use Rattle.circuit_target.proofs.parts.append.Goals as goal

pub places-preserved : goal.places-preserved
places-preserved c = record {
  wires = c.in_ok-push.ensures.wires ∙ c.places.invariant.wires;
  gates = gates-more c.args.body.now.gates c.places.body.gates c.push.new.self.gates c.args.part.now.gates c.places.place c.gate.result c.gate.ensures.there
      c.places.invariant.gates c.in_ok-push.ensures.gates;
}
