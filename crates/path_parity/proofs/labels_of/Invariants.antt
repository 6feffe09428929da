use Rattle.std.proofs.Common.{◌≡◌, ◌++◌, All, length, drop, map}
use Rattle.path_parity.specs.LabelWalks.{labels_at}
use Rattle.path_parity.specs.PathSum.{own_labels, phase_labels}
use Rattle.path_parity.specs.Sets.{IsLabel, label_of}
use Rattle.path_parity.proofs.labels_of.Given as goal

-- the labels so far, and those at the gates that are left, are all labels
abbrev pub invariant-places : goal.invariant-places
invariant-places l = record {
  wires : length l.walk.labels ≡ l.circuit.wires;
  packed : All IsLabel l.list.items;
  labels : map label_of l.list.items ++ phase_labels (drop l.place l.circuit.gates) (labels_at l.walk) l.walk.unused ≡ phase_labels l.circuit.gates (own_labels l.circuit.wires) l.circuit.wires;
}
