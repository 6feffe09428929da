-- Sets of path variables as words: bit b of the word at place p is variable 64 p + b.
--     words_set ws        the number whose bit v says whether variable v is in the set
--     IsFurther p ws       the first of the words has a greater place
--     AreAscending ws         places ascend, no word is 0, words have 64 bits, and variables are below 2 ^ 64
--     word_sum x y          the sum of two words of one place, none where it is 0
use Rattle.std.specs.Prelude.{ℕ, ◌*◌, ◌^◌, ◌<◌, cond, List, [], ◌∷◌, bit_xor, nat_eq}
use Rattle.path_sums.specs.declared.words.Word.{Word}

abbrev pub words_set : List Word → ℕ
words_set [] = 0
words_set (w ∷ ws) = bit_xor (w.bits * 2 ^ (64 * w.place)) (words_set ws)

abbrev pub IsFurther : ℕ → List Word → Type 0
IsFurther p [] = Unit {0}
IsFurther p (w ∷ ws) = p < w.place

abbrev pub AreAscending : List Word → Type 0
AreAscending [] = Unit {0}
AreAscending (w ∷ ws) = (0 < w.bits) × (w.bits < 2 ^ 64) × (w.place < 2 ^ 58) × IsFurther w.place ws × AreAscending ws

abbrev pub word_sum : Word → Word → List Word
word_sum x y = cond (nat_eq (bit_xor x.bits y.bits) 0) [] (record { place = x.place; bits = bit_xor x.bits y.bits } ∷ [])
