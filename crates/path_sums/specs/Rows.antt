-- Working form. Terms of what stands on sets.
--     words_at p words    the words that aren't 0, where the first word's place is p
--     words_in row        those of a row
--     paired flat         words that stand behind their places
--     words_behind flat   those behind a mark
use Rattle.std.specs.Prelude.{ℕ, ◌+◌, cond, List, [], ◌∷◌, ◌++◌, nat_eq}
use Rattle.path_sums.specs.declared.words.Word.{Word}

abbrev pub words_at : ℕ → List ℕ → List Word
words_at place [] = []
words_at place (word ∷ words) = cond (nat_eq word 0) [] (record { place = place; bits = word } ∷ []) ++ words_at (place + 1) words

abbrev pub words_in : List ℕ → List Word
words_in [] = []
words_in (from ∷ words) = words_at from words

abbrev pub paired : List ℕ → List Word
paired [] = []
paired (place ∷ []) = []
paired (place ∷ (word ∷ flat)) = record { place = place; bits = word } ∷ paired flat

abbrev pub words_behind : List ℕ → List Word
words_behind [] = []
words_behind (from ∷ flat) = paired flat
