-- The symbols of a text that is put together.
--   GivesBehind front text ss   behind this front, the symbols of the text are these
--   Gives text ss      the same behind any front
--   Gives-nil          no text
--   Gives-token, Gives-blank    one lexeme before a text
--   Gives-space, Gives-line     white space before a text
--   Gives-name         a name before a byte that ends it
--   Gives-number       a number before a bracket
--   lowest-whole       a whole number is in lowest terms
use Rattle.std.proofs.Common.{◌≡◌, ℕ, zero, suc, ◌+◌, ◌-◌, ◌^◌, ◌<◌, ◌≤◌, ◌==◌, ◌&&◌, ◌⊎◌, inl, inr, not, Bool, true, false, if◌then◌else◌, List, [], ◌∷◌, ◌++◌, None, Ok, pos, refl, sym, ap, ◌∙◌, subst, arith, rules, length, drop, take, get_or, append_assoc, length-append, append-nil, lit<, one-add}
use Rattle.std.proofs.Math.Nat.{mod-one, div-one, mul-one}
use Rattle.std.proofs.lemmas.Grind.{common_steps}
use Rattle.std.proofs.lemmas.Bool.Decides.{nat_tests}
use Rattle.std.proofs.lemmas.Fmt.{digits_value-decimal, digits_decimal, decimal_nonempty, first_decimal, decimal_digit}
use Rattle.std.proofs.lemmas.Str.Parse.{IsNumeralModel, numerals_by_fold}
use Rattle.std.specs.Char.{is_ascii_alphabetic, is_ascii_digit, is_ascii_lowercase, is_ascii_uppercase}
use Rattle.std.specs.Fmt.{decimal}
use Rattle.std.specs.List.{list_all, prefix_len}
use Rattle.angle_fraction.specs.Fraction.{common_factor, fraction, greatest_common, is_small, lowest, most_part}
use Rattle.qasm_lexer.specs.Forms.{Bytes, is_space, is_word_byte}
use Rattle.qasm_lexer.specs.Numbers.{begins_with, digit, has_point, number, number_after, decimal as value, scaled, has_value}
use Rattle.qasm_lexer.specs.Lexemes.{form_by, form_len, is_blank, is_number, is_out_of_range, is_stray, kind_of, lexeme_len, number_kind, number_len}
use Rattle.qasm_lexer.specs.Tokens.{bytes_of}
use Rattle.qasm_lexer.specs.Lexed.{lexed_from, then_more, token_at}
use Rattle.qasm_lexer.specs.declared.Kind.TheVariants.{Real, Whole}
use Rattle.qasm_lexer.specs.declared.Token.{Token}
use Rattle.qasm_writer.specs.Words.{IsFreeWord}
use Rattle.qasm_parser.specs.Spelling.{whole_symbol}
use Rattle.qasm_parser.specs.Symbols.{Symbol, function_of, keyword_of, name, symbol_by, symbols, whole, word_symbol}
use Rattle.qasm_writer.proofs.LexemeLaws.{first_lexeme, no_lexeme}

-- ---- one lexeme before a text
pub record GivesBehind (front text : Bytes) (ss : List Symbol) : Type 0 where
  pub tokens : List Token
  pub lexed : lexed_from (length front) text ≡ Ok tokens
  pub spelt : symbols (front ++ text) tokens ≡ ss

pub record Gives (text : Bytes) (ss : List Symbol) : Type 0 where
  pub behind : (front : Bytes) → GivesBehind front text ss

pub Gives-nil : Gives [] []
Gives-nil = record { behind = λ front. record { tokens = []; lexed = no_lexeme (length front); spelt = refl } }

front_of : (w rest : Bytes) → take (length w) (w ++ rest) ≡ w
front_of w rest = grind (arith, common_steps)

back_of : (w rest : Bytes) → drop (length w) (w ++ rest) ≡ rest
back_of w rest = grind (arith, common_steps)

difference : (m n : ℕ) → m + n - m ≡ n
difference m n = omega arith

bytes_there : (front w rest : Bytes) → bytes_of (front ++ (w ++ rest)) (token_at (length front) w) ≡ w
bytes_there front w rest =
    ap (λ (z : Bytes). take (length front + length w - length front) z) (back_of front (w ++ rest))
    ∙ ap (λ n. take n (w ++ rest)) (difference (length front) (length w)) ∙ front_of w rest

behind_token : (front w rest : Bytes) (ss : List Symbol) → lexeme_len (w ++ rest) ≡ length w → 0 < length w → is_blank w ≡ false → is_out_of_range w ≡ false
    → GivesBehind (front ++ w) rest ss → GivesBehind front (w ++ rest) (symbol_by (kind_of w) w ∷ ss)
behind_token front w rest ss e some token fine g =
    let step = first_lexeme w rest (length front) e some in
    let shown = rw (token, fine) at step in
    let place : length front + length w ≡ length (front ++ w) = sym (length-append front w) in
    let it = token_at (length front) w in
    record {
      tokens = it ∷ g.tokens;
      lexed = shown ∙ ap (λ n. then_more it (lexed_from n rest)) place ∙ ap (λ r. then_more it r) g.lexed;
      spelt = λ i. ap (λ (z : Bytes). symbol_by (kind_of w) z) (bytes_there front w rest) i
          ∷ (ap (λ (z : Bytes). symbols z g.tokens) (sym (append_assoc front w rest)) ∙ g.spelt) i;
    }

pub Gives-token : (w rest : Bytes) (ss : List Symbol) → lexeme_len (w ++ rest) ≡ length w → 0 < length w → is_blank w ≡ false → is_out_of_range w ≡ false
    → Gives rest ss → Gives (w ++ rest) (symbol_by (kind_of w) w ∷ ss)
Gives-token w rest ss e some token fine g =
    record { behind = λ front. behind_token front w rest ss e some token fine (g.behind (front ++ w)) }

behind_blank : (front w rest : Bytes) (ss : List Symbol) → lexeme_len (w ++ rest) ≡ length w → 0 < length w → is_blank w ≡ true
    → GivesBehind (front ++ w) rest ss → GivesBehind front (w ++ rest) ss
behind_blank front w rest ss e some blank g =
    let step = first_lexeme w rest (length front) e some in
    let shown = rw blank at step in
    let place : length front + length w ≡ length (front ++ w) = sym (length-append front w) in
    record {
      tokens = g.tokens;
      lexed = shown ∙ ap (λ n. lexed_from n rest) place ∙ g.lexed;
      spelt = ap (λ (z : Bytes). symbols z g.tokens) (sym (append_assoc front w rest)) ∙ g.spelt;
    }

pub Gives-blank : (w rest : Bytes) (ss : List Symbol) → lexeme_len (w ++ rest) ≡ length w → 0 < length w → is_blank w ≡ true
    → Gives rest ss → Gives (w ++ rest) ss
Gives-blank w rest ss e some blank g = record { behind = λ front. behind_blank front w rest ss e some blank (g.behind (front ++ w)) }

pub Gives-space : (rest : Bytes) (ss : List Symbol) → Gives rest ss → Gives (32 ∷ rest) ss
unfolding lexeme_len form_len
Gives-space rest ss g = Gives-blank (32 ∷ []) rest ss refl (lit< tt) refl g

pub Gives-line : (rest : Bytes) (ss : List Symbol) → Gives rest ss → Gives (10 ∷ rest) ss
unfolding lexeme_len form_len
Gives-line rest ss g = Gives-blank (10 ∷ []) rest ss refl (lit< tt) refl g

-- ---- names
pub first_of_both : (a b : Bool) → (a && b) ≡ true → a ≡ true
first_of_both true b e = refl
first_of_both false b e = e

pub second_of_both : (a b : Bool) → (a && b) ≡ true → b ≡ true
second_of_both true b e = e
second_of_both false b e = cc

-- a run of such bytes before another byte
pub prefix_len-run : (p : ℕ → Bool) (t : Bytes) (c : ℕ) (rest : Bytes) → list_all p t ≡ true → p c ≡ false → prefix_len p (t ++ c ∷ rest) ≡ length t
prefix_len-run p [] c rest e ends = rw ends refl
prefix_len-run p (b ∷ t) c rest e ends =
    let first = first_of_both (p b) (list_all p t) e in
    let others = prefix_len-run p t c rest (second_of_both (p b) (list_all p t) e) ends in
    rw (first, others) (one-add (length t))

small_space : (b : ℕ) → is_ascii_lowercase b ≡ true → is_space b ≡ false
small_space b e = grind (arith, nat_tests)

small_letter : (b : ℕ) → is_ascii_lowercase b ≡ true → is_ascii_alphabetic b ≡ true
small_letter b e = grind (arith, nat_tests)

small_capital : (b : ℕ) → is_ascii_lowercase b ≡ true → is_ascii_uppercase b ≡ false
small_capital b e = grind (arith, nat_tests)

small_word : (b : ℕ) → is_ascii_lowercase b ≡ true → is_word_byte b ≡ true
small_word b e = grind (arith, nat_tests)

small_digit : (b : ℕ) → is_ascii_lowercase b ≡ true → is_ascii_digit b ≡ false
small_digit b e = grind (arith, nat_tests)

small_point : (b : ℕ) → is_ascii_lowercase b ≡ true → (b == 46) ≡ false
small_point b e = grind (arith, nat_tests)

small_slash : (b : ℕ) → is_ascii_lowercase b ≡ true → (b == 47) ≡ false
small_slash b e = grind (arith, nat_tests)

form_by-letter : (b : ℕ) (x : Bytes) → is_space b ≡ false → is_ascii_alphabetic b ≡ true → form_by b x ≡ prefix_len is_word_byte x
form_by-letter b x e f = rw (e, f) refl

not_stray : (b : ℕ) (x : Bytes) (n : ℕ) → is_ascii_uppercase b ≡ false → is_stray (take n (b ∷ x)) ≡ false
not_stray b x zero e = refl
not_stray b x (suc n) e = rw e refl

-- a lexeme that begins with no capital
pub lexeme_len-plain : (b : ℕ) (x : Bytes) (n : ℕ) → is_ascii_uppercase b ≡ false → form_by b (b ∷ x) ≡ n → lexeme_len (b ∷ x) ≡ n
unfolding lexeme_len form_len
lexeme_len-plain b x n e f = rw (not_stray b x (form_by b (b ∷ x)) e) f

lexeme_len-name : (b : ℕ) (t : Bytes) (c : ℕ) (rest : Bytes) → is_ascii_lowercase b ≡ true → list_all is_word_byte t ≡ true → is_word_byte c ≡ false
    → lexeme_len (b ∷ t ++ c ∷ rest) ≡ length (b ∷ t)
lexeme_len-name b t c rest small word ends =
    let all : (is_word_byte b && list_all is_word_byte t) ≡ true = rw (small_word b small, word) refl in
    lexeme_len-plain b (t ++ c ∷ rest) (length (b ∷ t)) (small_capital b small)
    (form_by-letter b (b ∷ t ++ c ∷ rest) (small_space b small) (small_letter b small) ∙ prefix_len-run is_word_byte (b ∷ t) c rest all ends)

named : (w : Bytes) → keyword_of w ≡ None → function_of w ≡ None → word_symbol w (keyword_of w) ≡ name w
unfolding word_symbol
named w e f = rw (e, f) refl

name_by : (b : ℕ) (t : Bytes) (c : ℕ) (rest : Bytes) (ss : List Symbol) → is_ascii_lowercase b ≡ true → list_all is_word_byte t ≡ true
    → keyword_of (b ∷ t) ≡ None → function_of (b ∷ t) ≡ None → is_word_byte c ≡ false → Gives (c ∷ rest) ss
    → Gives (b ∷ t ++ c ∷ rest) (name (b ∷ t) ∷ ss)
unfolding symbol_by
name_by b t c rest ss small word free no_function ends g =
    let blank : is_blank (b ∷ t) ≡ false = rw (small_space b small, small_slash b small) refl in
    let fine : is_out_of_range (b ∷ t) ≡ false = rw (small_digit b small, small_point b small) refl in
    let it : symbol_by (kind_of (b ∷ t)) (b ∷ t) ≡ name (b ∷ t) = rw (small_letter b small) (named (b ∷ t) free no_function) in
    subst (λ (x : Symbol). Gives (b ∷ t ++ c ∷ rest) (x ∷ ss)) it
    (Gives-token (b ∷ t) (c ∷ rest) ss (lexeme_len-name b t c rest small word ends) (omega arith) blank fine g)

pub Gives-name : (w : Bytes) (c : ℕ) (rest : Bytes) (ss : List Symbol) → IsFreeWord w → is_word_byte c ≡ false → Gives (c ∷ rest) ss
    → Gives (w ++ c ∷ rest) (name w ∷ ss)
Gives-name [] c rest ss h ends g = absurd (let e = h.word in cc)
Gives-name (b ∷ t) c rest ss h ends g =
    name_by b t c rest ss (first_of_both (is_ascii_lowercase b) (list_all is_word_byte t) h.word)
    (second_of_both (is_ascii_lowercase b) (list_all is_word_byte t) h.word) h.free h.no_function ends g

-- ---- numbers
digits_own : IsNumeralModel (λ ds. list_all is_ascii_digit ds ≡ true) (number_after 0)
unfolding digit
digits_own = numerals_by_fold _ (search rules) number_after (search rules)

number-decimal : (n : ℕ) → n < 2 ^ 64 → number (decimal n) ≡ n
unfolding number
number-decimal n h = digits_value-decimal digits_own n h

pub all_digits : (n : ℕ) → n < 2 ^ 64 → list_all is_ascii_digit (decimal n) ≡ true
all_digits n h = digits_decimal digits_own n h

-- a run of such bytes alone
prefix_len-whole : (p : ℕ → Bool) (t : Bytes) → list_all p t ≡ true → prefix_len p t ≡ length t
prefix_len-whole p [] e = refl
prefix_len-whole p (b ∷ t) e =
    let first = first_of_both (p b) (list_all p t) e in
    let others = prefix_len-whole p t (second_of_both (p b) (list_all p t) e) in
    rw (first, others) (one-add (length t))

take_whole : (t : Bytes) → take (length t) t ≡ t
take_whole t = grind (arith, common_steps)

drop_whole : (t : Bytes) → drop (length t) t ≡ []
drop_whole t = grind (arith, common_steps)

-- digits alone are a whole number
value-digits : (t : Bytes) → list_all is_ascii_digit t ≡ true → value t ≡ fraction (pos (number t)) 1
unfolding scaled number
value-digits t e =
    let run = prefix_len-whole is_ascii_digit t e in
    let all = take_whole t in
    let none = drop_whole t in
    rw (run, all, none) (ap (λ n. fraction (pos n) 1) (mul-one (number_after 0 (t ++ [])) ∙ ap (λ (z : Bytes). number_after 0 z) (append-nil t)))

pub lowest-whole : (n : ℕ) → lowest (fraction (pos n) 1) ≡ fraction (pos n) 1
unfolding lowest common_factor greatest_common
lowest-whole n = rw (mod-one n, div-one n) refl

value-decimal : (n : ℕ) → n < 2 ^ 64 → lowest (value (decimal n)) ≡ fraction (pos n) 1
value-decimal n h =
    ap lowest (value-digits (decimal n) (all_digits n h) ∙ ap (λ m. fraction (pos m) 1) (number-decimal n h)) ∙ lowest-whole n

small_whole : (n : ℕ) → n ≤ most_part → is_small (fraction (pos n) 1) ≡ true
unfolding is_small
small_whole n h = grind (arith, nat_tests)

-- a digit alone, or the first is no 0
not_first : (t : Bytes) → 48 < get_or t 0 0 → begins_with 48 t ≡ false
not_first [] h = absurd (omega arith)
not_first (c ∷ t) h = grind arith

no_leading_zero : (n : ℕ) → n < 2 ^ 64 → (begins_with 48 (decimal n) ≡ false) ⊎ (length (decimal n) ≡ 1)
no_leading_zero zero h = inr (ap length (decimal_digit 0 (omega arith)))
no_leading_zero (suc n) h = inl (not_first (decimal (suc n)) (first_decimal (suc n) (omega arith) h))

digit_space : (b : ℕ) → is_ascii_digit b ≡ true → is_space b ≡ false
digit_space b e = grind (arith, nat_tests)

digit_letter : (b : ℕ) → is_ascii_digit b ≡ true → is_ascii_alphabetic b ≡ false
digit_letter b e = grind (arith, nat_tests)

digit_slash : (b : ℕ) → is_ascii_digit b ≡ true → (b == 47) ≡ false
digit_slash b e = grind (arith, nat_tests)

number_len-whole : (x : Bytes) (n : ℕ) → prefix_len is_ascii_digit x ≡ n → begins_with 46 (drop n x) ≡ false
    → (begins_with 48 x ≡ false) ⊎ (n ≡ 1) → number_len x ≡ n
number_len-whole x n e f first = rw (e, f) (by_first (begins_with 48 x) n first)
  where
    by_first : (b : Bool) (n : ℕ) → (b ≡ false) ⊎ (n ≡ 1) → (if b then 1 else n) ≡ n
    by_first false n first = refl
    by_first true n (inl g) = cc
    by_first true n (inr g) = sym g

digit_capital : (b : ℕ) → is_ascii_digit b ≡ true → is_ascii_uppercase b ≡ false
digit_capital b e = grind (arith, nat_tests)

form_by-digit : (b : ℕ) (x : Bytes) → is_space b ≡ false → is_ascii_alphabetic b ≡ false → is_ascii_digit b ≡ true → form_by b x ≡ number_len x
form_by-digit b x e f g = rw (e, f, g) refl

lexeme_len-number : (b : ℕ) (t rest : Bytes) → list_all is_ascii_digit (b ∷ t) ≡ true → ((b == 48) ≡ false) ⊎ (length (b ∷ t) ≡ 1)
    → lexeme_len (b ∷ t ++ 93 ∷ rest) ≡ length (b ∷ t)
lexeme_len-number b t rest digits first =
    let digit = first_of_both (is_ascii_digit b) (list_all is_ascii_digit t) digits in
    let run = prefix_len-run is_ascii_digit (b ∷ t) 93 rest digits refl in
    let after : begins_with 46 (drop (length (b ∷ t)) ((b ∷ t) ++ 93 ∷ rest)) ≡ false = rw (back_of (b ∷ t) (93 ∷ rest)) refl in
    lexeme_len-plain b (t ++ 93 ∷ rest) (length (b ∷ t)) (digit_capital b digit)
    (form_by-digit b (b ∷ t ++ 93 ∷ rest) (digit_space b digit) (digit_letter b digit) digit
    ∙ number_len-whole (b ∷ t ++ 93 ∷ rest) (length (b ∷ t)) run after first)

point_none : (x : Bytes) → prefix_len is_ascii_digit x ≡ length x → has_point x ≡ false
point_none x run = let none = drop_whole x in rw (run, none) refl

kind_of-digit : (b : ℕ) (t : Bytes) → is_ascii_alphabetic b ≡ false → is_ascii_digit b ≡ true → kind_of (b ∷ t) ≡ number_kind (b ∷ t)
kind_of-digit b t e f = rw (e, f) refl

in_range : (a b : Bool) → b ≡ true → (a && not b) ≡ false
in_range true b e = rw e refl
in_range false b e = refl

kind-digits : (b : ℕ) (t : Bytes) → list_all is_ascii_digit (b ∷ t) ≡ true → kind_of (b ∷ t) ≡ Whole
kind-digits b t digits =
    let digit = first_of_both (is_ascii_digit b) (list_all is_ascii_digit t) digits in
    kind_of-digit b t (digit_letter b digit) digit
    ∙ ap (λ p. if p then Real else Whole) (point_none (b ∷ t) (prefix_len-whole is_ascii_digit (b ∷ t) digits))

number_by : (n : ℕ) (b : ℕ) (t rest : Bytes) (ss : List Symbol) → n ≤ most_part → list_all is_ascii_digit (b ∷ t) ≡ true
    → ((b == 48) ≡ false) ⊎ (length (b ∷ t) ≡ 1) → lowest (value (b ∷ t)) ≡ fraction (pos n) 1
    → Gives (93 ∷ rest) ss → Gives (b ∷ t ++ 93 ∷ rest) (whole_symbol n ∷ ss)
unfolding symbol_by
number_by n b t rest ss h digits first is g =
    let digit = first_of_both (is_ascii_digit b) (list_all is_ascii_digit t) digits in
    let blank : is_blank (b ∷ t) ≡ false = rw (digit_space b digit, digit_slash b digit) refl in
    let kept : has_value (b ∷ t) ≡ true = ap is_small is ∙ small_whole n h in
    let fine : is_out_of_range (b ∷ t) ≡ false = in_range (is_number (b ∷ t)) (has_value (b ∷ t)) kept in
    let it : symbol_by (kind_of (b ∷ t)) (b ∷ t) ≡ whole_symbol n = ap (λ k. symbol_by k (b ∷ t)) (kind-digits b t digits) ∙ ap whole is in
    subst (λ (x : Symbol). Gives (b ∷ t ++ 93 ∷ rest) (x ∷ ss)) it
    (Gives-token (b ∷ t) (93 ∷ rest) ss (lexeme_len-number b t rest digits first) (omega arith) blank fine g)

number_text : (n : ℕ) (t rest : Bytes) (ss : List Symbol) → n ≤ most_part → 0 < length t → list_all is_ascii_digit t ≡ true
    → (begins_with 48 t ≡ false) ⊎ (length t ≡ 1) → lowest (value t) ≡ fraction (pos n) 1
    → Gives (93 ∷ rest) ss → Gives (t ++ 93 ∷ rest) (whole_symbol n ∷ ss)
number_text n [] rest ss h some digits first is g = absurd (omega arith)
number_text n (b ∷ t) rest ss h some digits first is g = number_by n b t rest ss h digits first is g

pub Gives-number : (n : ℕ) (rest : Bytes) (ss : List Symbol) → n ≤ most_part → Gives (93 ∷ rest) ss
    → Gives (decimal n ++ 93 ∷ rest) (whole_symbol n ∷ ss)
Gives-number n rest ss h g =
    let small : n < 2 ^ 64 = omega arith in
    number_text n (decimal n) rest ss h (decimal_nonempty n small) (all_digits n small) (no_leading_zero n small) (value-decimal n small) g
