-- What a contract sees of a walk along a circuit.
--     LabelWalk           the labels of the wires, and the least variable not used so far
--     labels_of_list ls   the labels of the first wires as those of all; a wire that isn't there has no variable
--     labels_at w         the labels of a walk, so
use Rattle.std.specs.Prelude.{ℕ, false, List, get_or}
use Rattle.path_parity.specs.PathSum.{PathLabel, label, Wires}

pub record LabelWalk : Type 0 where
  pub labels : List PathLabel
  pub unused : ℕ

abbrev pub labels_of_list : List PathLabel → Wires
labels_of_list ls = λ q. get_or ls q (label 0 false)

abbrev pub labels_at : LabelWalk → Wires
labels_at w = labels_of_list w.labels
