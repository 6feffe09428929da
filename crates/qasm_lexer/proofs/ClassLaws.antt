-- Classes of bytes, and bytes of one class at the front of a text.
--   space_not_letter, space_not_digit, letter_not_space, ..   no byte is in two of the classes
--   letter-word, capital-letter   a letter may stand in a word; a capital is a letter
--   each-front       what stands at the front of a class is of this class
--   each-fits        bytes of a class at the front are among those that are counted
--   each-stops       and they are all where the next byte isn't of the class
use Rattle.std.proofs.Common.{◌≡◌, ℕ, suc, ◌+◌, ◌≤◌, ◌==◌, ◌||◌, Bool, true, false, [], ◌∷◌, ◌++◌, if◌then◌else◌, refl, arith, length, take}
use Rattle.std.specs.List.{prefix_len}
use Rattle.std.specs.Char.{is_ascii_alphabetic, is_ascii_digit, is_ascii_uppercase}
use Rattle.std.proofs.lemmas.Bool.Decides.{nat_tests}
use Rattle.qasm_lexer.specs.Forms.{Bytes, Each, is_space, is_word_byte}

pub letter_not_space : (b : ℕ) → is_ascii_alphabetic b ≡ true → is_space b ≡ false
letter_not_space b h = grind (arith, nat_tests)

pub digit_not_space : (b : ℕ) → is_ascii_digit b ≡ true → is_space b ≡ false
digit_not_space b h = grind (arith, nat_tests)

pub digit_not_letter : (b : ℕ) → is_ascii_digit b ≡ true → is_ascii_alphabetic b ≡ false
digit_not_letter b h = grind (arith, nat_tests)

pub number_not_space : (b : ℕ) → (is_ascii_digit b || (b == 46)) ≡ true → is_space b ≡ false
number_not_space b h = grind (arith, nat_tests)

pub number_not_letter : (b : ℕ) → (is_ascii_digit b || (b == 46)) ≡ true → is_ascii_alphabetic b ≡ false
number_not_letter b h = grind (arith, nat_tests)

pub letter-word : (b : ℕ) → is_ascii_alphabetic b ≡ true → is_word_byte b ≡ true
letter-word b h = grind (arith, nat_tests)

pub capital-letter : (b : ℕ) → is_ascii_uppercase b ≡ true → is_ascii_alphabetic b ≡ true
capital-letter b h = grind (arith, nat_tests)

-- ---- the front
one_more : (n : ℕ) → 1 + n ≡ suc n
one_more n = omega arith

pub each-front : (p : ℕ → Bool) (t : Bytes) → Each p (take (prefix_len p t) t)
each-front p [] = tt
each-front p (b ∷ t) = by_test (p b) refl (each-front p t)
  where
    by_test : (c : Bool) → p b ≡ c → Each p (take (prefix_len p t) t) → Each p (take (if c then 1 + prefix_len p t else 0) (b ∷ t))
    by_test true e more = rw one_more (e, more)
    by_test false e more = tt

pub each-fits : (p : ℕ → Bool) (w t : Bytes) → Each p w → length w ≤ prefix_len p (w ++ t)
each-fits p [] t h = omega arith
each-fits p (b ∷ w) t h = let more = each-fits p w t h.1 in rw h.0 (omega arith)

pub each-stops : (p : ℕ → Bool) (w t : Bytes) (b : ℕ) → Each p w → p b ≡ false → prefix_len p (w ++ (b ∷ t)) ≡ length w
each-stops p [] t b h e = rw e refl
each-stops p (c ∷ w) t b h e = rw (h.0, each-stops p w t b h.1 e) (omega arith)

pub each-ends : (p : ℕ → Bool) (w : Bytes) → Each p w → prefix_len p w ≡ length w
each-ends p [] h = refl
each-ends p (c ∷ w) h = rw (h.0, each-ends p w h.1) (omega arith)
