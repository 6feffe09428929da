-- Terms in the code.
--     term_of t           the set and what stands on it
--     IsTerm t            the words of the set are in order
use Rattle.std.specs.Prelude.{ℕ}
use Rattle.path_sums.specs.declared.term.Term.{Term}
use Rattle.path_sums.specs.Words.{AreAscending, words_set}

abbrev pub term_of : Term → ℕ × ℕ
term_of t = (words_set t.set.items, t.k)

abbrev pub IsTerm : Term → Type 0
IsTerm t = AreAscending t.set.items
