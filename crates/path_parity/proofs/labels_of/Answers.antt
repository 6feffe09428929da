use Rattle.std.proofs.Common.{◌∙◌, map}
use Rattle.path_parity.specs.LabelWalks.{labels_at}
use Rattle.path_parity.specs.PathSum.{own_labels, phase_labels}
use Rattle.path_parity.specs.Sets.{label_of}
use Rattle.path_parity.proofs.LoopLaws.{labels-step}
use Rattle.path_parity.proofs.labels_of.Goals as goal

pub places-preserved : goal.places-preserved
places-preserved c =
    let b = c.args.circuit.now in
    record {
      wires = c.in_ok-pass.ensures.wires ∙ c.places.invariant.wires;
      packed = c.in_ok-note.ensures.packed;
      labels = labels-step b.gates c.places.place c.gate-gate.result (map label_of c.places.list.items) (map label_of c.note.new.list.items) (labels_at c.places.walk) (labels_at c.pass.new.self)
          c.places.walk.unused c.pass.new.self.unused (phase_labels b.gates (own_labels b.wires) b.wires)
          c.gate-gate.ensures.there c.in_ok-note.ensures.labels c.in_ok-pass.ensures.labels c.in_ok-pass.ensures.unused c.places.invariant.labels;
    }
