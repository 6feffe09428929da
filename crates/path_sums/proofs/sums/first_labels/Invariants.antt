-- Each wire so far has its own variable.
use Rattle.std.proofs.Common.{◌≡◌, All, length, map, take}
use Rattle.path_parity.specs.PathSum.{fresh}
use Rattle.path_parity.specs.Sets.{IsLabel, label_of}
use Rattle.path_sums.proofs.sums.first_labels.Given as goal

abbrev pub invariant-wires : goal.invariant-wires
invariant-wires l = record {
  wires : length l.labels.items ≡ l.place;
  labels : map label_of l.labels.items ≡ map fresh (take l.place l.wires);
  packed : All IsLabel l.labels.items;
}
