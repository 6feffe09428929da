-- The words so far are kept, and those that are left are to come.
use Rattle.std.proofs.Common.{◌≡◌, ◌+◌, ◌-◌, ◌++◌, drop, get_or}
use Rattle.path_sums.specs.Rows.{words_at, words_in}
use Rattle.path_sums.proofs.rows.full_words.Given as goal

abbrev pub invariant-words : goal.invariant-words
invariant-words l = l.words.items ++ words_at (get_or l.row 0 0 + (l.index - 1)) (drop l.index l.row) ≡ words_in l.row
