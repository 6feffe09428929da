-- The labels so far are the same.
use Rattle.std.proofs.Common.{◌≡◌, ℕ, ◌<◌, map}
use Rattle.path_parity.specs.LabelWalks.{labels_of_list}
use Rattle.path_parity.specs.Sets.{label_of}
use Rattle.path_sums.proofs.sums.same_labels.Given as goal

abbrev pub invariant-wires : goal.invariant-wires
invariant-wires l = (p : ℕ) → p < l.q → labels_of_list (map label_of l.left) p ≡ labels_of_list (map label_of l.right) p
