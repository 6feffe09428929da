-- The words so far are kept, and those that are left are to come.
use Rattle.std.proofs.Common.{◌≡◌, ◌+◌, ◌-◌, ◌≤◌, ◌++◌, drop, length}
use Rattle.path_sums.specs.Rows.{paired, words_behind}
use Rattle.path_sums.proofs.rows.sparse_words.Given as goal

abbrev pub invariant-words : goal.invariant-words
invariant-words l = record {
  first : 1 ≤ l.index;
  within : l.index ≤ length l.row + 1;
  words : l.words.items ++ paired (drop l.index l.row) ≡ words_behind l.row;
}

abbrev pub decreases-words : goal.decreases-words
decreases-words l = length l.row - l.index
