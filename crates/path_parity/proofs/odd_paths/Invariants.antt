use Rattle.std.proofs.Common.{◌≡◌, ℕ, List, length, drop}
use Rattle.circuit_list.specs.Gates.{ops}
use Rattle.unitary_model.specs.OddPaths.{odd_paths}
use Rattle.path_parity.specs.LabelWalks.{labels_at}
use Rattle.path_parity.specs.OddLabels.{odd_sets, toggled_all}
use Rattle.path_parity.specs.OddSets.{IsOddSet}
use Rattle.path_parity.proofs.odd_paths.Given as goal

-- the odd set so far, with the sets at the gates that are left, has as many labels as there are odd path parities
abbrev pub invariant-places : goal.invariant-places
invariant-places l = record {
  wires : length l.walk.labels ≡ l.circuit.wires;
  odd : (s : List ℕ) × IsOddSet l.odd s × (length (toggled_all (odd_sets (drop l.place l.circuit.gates) (labels_at l.walk) l.walk.unused) s) ≡ odd_paths l.circuit.wires (ops l.circuit.gates));
}
