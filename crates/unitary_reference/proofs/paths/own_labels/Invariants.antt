use Rattle.std.proofs.Common.{◌≡◌, length, slice_index}
use Rattle.unitary_model.specs.OddPaths.{own_variables}
use Rattle.unitary_reference.proofs.paths.own_labels.Given as goal

abbrev pub invariant-loop-q : goal.invariant-loop-q
invariant-loop-q l = record { long : length l.labels ≡ 64; own : slice_index l.labels ≡ own_variables l.q }
