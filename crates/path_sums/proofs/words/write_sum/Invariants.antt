-- The row so far and what is left of both sets have their sum.
use Rattle.std.proofs.Common.{◌+◌, ◌-◌, ◌≤◌, bit_xor, drop, length}
use Rattle.path_sums.specs.Words.{words_set}
use Rattle.path_sums.proofs.WordLaws.{IsMerging}
use Rattle.path_sums.proofs.words.write_sum.Given as goal

abbrev pub invariant-both : goal.invariant-both
invariant-both l = record {
  within_x : l.i ≤ length l.xs;
  within_y : l.j ≤ length l.ys;
  merging : IsMerging l.row.items (drop l.i l.xs) (drop l.j l.ys) (bit_xor (words_set l.xs) (words_set l.ys));
}

abbrev pub decreases-both : goal.decreases-both
decreases-both l = (length l.xs - l.i) + (length l.ys - l.j)
