-- The variable is in the words that are left, or in none.
use Rattle.std.proofs.Common.{◌≡◌, drop}
use Rattle.std.specs.Int.{bit_at}
use Rattle.path_sums.specs.Words.{words_set}
use Rattle.path_sums.proofs.words.has.Given as goal

abbrev pub invariant-words : goal.invariant-words
invariant-words l = bit_at (words_set (drop l.index l.set)) l.variable ≡ bit_at (words_set l.set) l.variable
