-- What comes next, as a number.
--   kind_number, symbol_number, look   a kind, a symbol and what comes next as numbers; the end is one of them
--   comes-look       a kind comes next where the numbers are equal
--   look-below       the numbers are below 33
--   under, under-holds   a test holds below a number
--   sample, comes-sample   a symbol of a kind
--   look-append      what comes next behind the same symbols
use Rattle.std.proofs.Common.{◌≡◌, ℕ, zero, suc, ◌+◌, ◌<◌, ◌≤◌, Bool, true, false, not, nat_eq, if◌then◌else◌, List, [], ◌∷◌, ◌++◌, refl, sym, ap, ◌∙◌, subst, drop, length, arith, pos, inl, inr}
use Rattle.std.proofs.lemmas.Bool.Decides.{nat_tests}
use Rattle.std.proofs.lemmas.Bool.{cases_eq}
use Rattle.angle_fraction.specs.Fraction.{fraction}
use Rattle.angle_fraction.specs.declared.signs.Binary.{Binary}
use Rattle.angle_fraction.specs.declared.signs.Binary.TheVariants.{Add, Sub, Mul, Div, Pow}
use Rattle.qasm_parser.specs.declared.symbols.Keyword.{Keyword}
use Rattle.qasm_parser.specs.declared.symbols.Keyword.TheVariants.{OpenQasm, Include, Qreg, Creg, Gate, Opaque, Measure, Reset, If, Barrier, Pi, U, Cx}
use Rattle.qasm_parser.specs.declared.symbols.Mark.{Mark}
use Rattle.qasm_parser.specs.declared.symbols.Mark.TheVariants.{Semicolon, Comma, Open, Close, OpenBracket, CloseBracket, OpenBrace, CloseBrace, Arrow, Equals}
use Rattle.qasm_parser.specs.Symbols.{Symbol, word, function, name, whole, real, quoted, mark, sign, other}
use Rattle.qasm_parser.specs.Reading.{mark_code, whole_number, word_code}
use Rattle.qasm_parser.specs.Ways.{Kind, this_mark, this_word, a_name, a_whole, a_real, a_text, the_end, comes, is_some}

-- ---- numbers
abbrev pub kind_number : Kind → ℕ
kind_number (this_mark m) = mark_code m
kind_number (this_word w) = 10 + word_code w
kind_number a_name = 23
kind_number a_whole = 24
kind_number a_real = 25
kind_number a_text = 26
kind_number the_end = 27

abbrev pub whole_look : Bool → ℕ
whole_look true = 24
whole_look false = 29

abbrev pub sign_number : Binary → ℕ
sign_number Sub = 30
sign_number _ = 31

abbrev pub symbol_number : Symbol → ℕ
symbol_number (mark m) = mark_code m
symbol_number (word w) = 10 + word_code w
symbol_number (name bytes) = 23
symbol_number (whole value) = whole_look (is_some (whole_number value))
symbol_number (real value) = 25
symbol_number (quoted bytes) = 26
symbol_number (function f) = 28
symbol_number (sign s) = sign_number s
symbol_number other = 32

abbrev pub look : List Symbol → ℕ
look [] = 27
look (t ∷ ts) = symbol_number t

-- ---- bounds
pub mark-low : (m : Mark) → mark_code m < 10
mark-low Semicolon = omega arith
mark-low Comma = omega arith
mark-low Open = omega arith
mark-low Close = omega arith
mark-low OpenBracket = omega arith
mark-low CloseBracket = omega arith
mark-low OpenBrace = omega arith
mark-low CloseBrace = omega arith
mark-low Arrow = omega arith
mark-low Equals = omega arith

pub word-low : (w : Keyword) → word_code w < 13
word-low OpenQasm = omega arith
word-low Include = omega arith
word-low Qreg = omega arith
word-low Creg = omega arith
word-low Gate = omega arith
word-low Opaque = omega arith
word-low Measure = omega arith
word-low Reset = omega arith
word-low If = omega arith
word-low Barrier = omega arith
word-low Pi = omega arith
word-low U = omega arith
word-low Cx = omega arith

whole-low : (b : Bool) → (24 ≤ whole_look b) × (whole_look b < 33)
whole-low true = (omega arith, omega arith)
whole-low false = (omega arith, omega arith)

sign-low : (s : Binary) → (30 ≤ sign_number s) × (sign_number s < 33)
sign-low Add = (omega arith, omega arith)
sign-low Sub = (omega arith, omega arith)
sign-low Mul = (omega arith, omega arith)
sign-low Div = (omega arith, omega arith)
sign-low Pow = (omega arith, omega arith)

pub symbol-below : (t : Symbol) → symbol_number t < 33
symbol-below (mark m) = let l = mark-low m in omega arith
symbol-below (word w) = let l = word-low w in omega arith
symbol-below (name bytes) = omega arith
symbol-below (whole value) = (whole-low (is_some (whole_number value))).1
symbol-below (real value) = omega arith
symbol-below (quoted bytes) = omega arith
symbol-below (function f) = omega arith
symbol-below (sign s) = (sign-low s).1
symbol-below other = omega arith

pub look-below : (ts : List Symbol) → look ts < 33
look-below [] = omega arith
look-below (t ∷ ts) = symbol-below t

-- ---- what comes next
lower : (a b : ℕ) → a < b → false ≡ nat_eq a b
lower a b h = grind (arith, nat_tests)

higher : (a b : ℕ) → b < a → false ≡ nat_eq a b
higher a b h = grind (arith, nat_tests)

same_words : (a b : ℕ) → nat_eq a b ≡ nat_eq (10 + a) (10 + b)
same_words a b = elim (cases_eq a b) [
  | inl e ↦ (let f : nat_eq a b ≡ true = grind (arith, nat_tests) in let g : nat_eq (10 + a) (10 + b) ≡ true = grind (arith, nat_tests) in f ∙ sym g)
  | inr n ↦ (let f : nat_eq a b ≡ false = grind (arith, nat_tests) in let g : nat_eq (10 + a) (10 + b) ≡ false = grind (arith, nat_tests) in f ∙ sym g)
]

mark-look : (m : Mark) (ts : List Symbol) → comes (this_mark m) ts ≡ nat_eq (mark_code m) (look ts)
mark-look m [] = lower _ _ (let l = mark-low m in omega arith)
mark-look m (mark n ∷ ts) = refl
mark-look m (word w ∷ ts) = lower _ _ (let l = mark-low m in omega arith)
mark-look m (name bytes ∷ ts) = lower _ _ (let l = mark-low m in omega arith)
mark-look m (whole value ∷ ts) = lower _ _ (let l = mark-low m in let k = whole-low (is_some (whole_number value)) in omega arith)
mark-look m (real value ∷ ts) = lower _ _ (let l = mark-low m in omega arith)
mark-look m (quoted bytes ∷ ts) = lower _ _ (let l = mark-low m in omega arith)
mark-look m (function f ∷ ts) = lower _ _ (let l = mark-low m in omega arith)
mark-look m (sign s ∷ ts) = lower _ _ (let l = mark-low m in let k = sign-low s in omega arith)
mark-look m (other ∷ ts) = lower _ _ (let l = mark-low m in omega arith)

word-look : (w : Keyword) (ts : List Symbol) → comes (this_word w) ts ≡ nat_eq (10 + word_code w) (look ts)
word-look w [] = lower _ _ (let l = word-low w in omega arith)
word-look w (mark n ∷ ts) = higher _ _ (let l = mark-low n in omega arith)
word-look w (word v ∷ ts) = same_words (word_code w) (word_code v)
word-look w (name bytes ∷ ts) = lower _ _ (let l = word-low w in omega arith)
word-look w (whole value ∷ ts) = lower _ _ (let l = word-low w in let k = whole-low (is_some (whole_number value)) in omega arith)
word-look w (real value ∷ ts) = lower _ _ (let l = word-low w in omega arith)
word-look w (quoted bytes ∷ ts) = lower _ _ (let l = word-low w in omega arith)
word-look w (function f ∷ ts) = lower _ _ (let l = word-low w in omega arith)
word-look w (sign s ∷ ts) = lower _ _ (let l = word-low w in let k = sign-low s in omega arith)
word-look w (other ∷ ts) = lower _ _ (let l = word-low w in omega arith)

whole_is : (n : ℕ) (b : Bool) → n < 24 → false ≡ nat_eq n (whole_look b)
whole_is n b h = lower _ _ (let k = whole-low b in omega arith)

name-look : (ts : List Symbol) → comes a_name ts ≡ nat_eq 23 (look ts)
name-look [] = refl
name-look (mark n ∷ ts) = higher _ _ (let l = mark-low n in omega arith)
name-look (word v ∷ ts) = higher _ _ (let l = word-low v in omega arith)
name-look (name bytes ∷ ts) = refl
name-look (whole value ∷ ts) = lower _ _ (let k = whole-low (is_some (whole_number value)) in omega arith)
name-look (real value ∷ ts) = refl
name-look (quoted bytes ∷ ts) = refl
name-look (function f ∷ ts) = refl
name-look (sign s ∷ ts) = lower _ _ (let k = sign-low s in omega arith)
name-look (other ∷ ts) = refl

whole-look : (ts : List Symbol) → comes a_whole ts ≡ nat_eq 24 (look ts)
whole-look [] = refl
whole-look (mark n ∷ ts) = higher _ _ (let l = mark-low n in omega arith)
whole-look (word v ∷ ts) = higher _ _ (let l = word-low v in omega arith)
whole-look (name bytes ∷ ts) = refl
whole-look (whole value ∷ ts) = go (is_some (whole_number value))
  where
    go : (b : Bool) → b ≡ nat_eq 24 (whole_look b)
    go true = refl
    go false = refl
whole-look (real value ∷ ts) = refl
whole-look (quoted bytes ∷ ts) = refl
whole-look (function f ∷ ts) = refl
whole-look (sign s ∷ ts) = lower _ _ (let k = sign-low s in omega arith)
whole-look (other ∷ ts) = refl

real-look : (ts : List Symbol) → comes a_real ts ≡ nat_eq 25 (look ts)
real-look [] = refl
real-look (mark n ∷ ts) = higher _ _ (let l = mark-low n in omega arith)
real-look (word v ∷ ts) = higher _ _ (let l = word-low v in omega arith)
real-look (name bytes ∷ ts) = refl
real-look (whole value ∷ ts) = go (is_some (whole_number value))
  where
    go : (b : Bool) → false ≡ nat_eq 25 (whole_look b)
    go true = refl
    go false = refl
real-look (real value ∷ ts) = refl
real-look (quoted bytes ∷ ts) = refl
real-look (function f ∷ ts) = refl
real-look (sign s ∷ ts) = lower _ _ (let k = sign-low s in omega arith)
real-look (other ∷ ts) = refl

text-look : (ts : List Symbol) → comes a_text ts ≡ nat_eq 26 (look ts)
text-look [] = refl
text-look (mark n ∷ ts) = higher _ _ (let l = mark-low n in omega arith)
text-look (word v ∷ ts) = higher _ _ (let l = word-low v in omega arith)
text-look (name bytes ∷ ts) = refl
text-look (whole value ∷ ts) = go (is_some (whole_number value))
  where
    go : (b : Bool) → false ≡ nat_eq 26 (whole_look b)
    go true = refl
    go false = refl
text-look (real value ∷ ts) = refl
text-look (quoted bytes ∷ ts) = refl
text-look (function f ∷ ts) = refl
text-look (sign s ∷ ts) = lower _ _ (let k = sign-low s in omega arith)
text-look (other ∷ ts) = refl

end-look : (ts : List Symbol) → comes the_end ts ≡ nat_eq 27 (look ts)
end-look [] = refl
end-look (mark n ∷ ts) = higher _ _ (let l = mark-low n in omega arith)
end-look (word v ∷ ts) = higher _ _ (let l = word-low v in omega arith)
end-look (name bytes ∷ ts) = refl
end-look (whole value ∷ ts) = go (is_some (whole_number value))
  where
    go : (b : Bool) → false ≡ nat_eq 27 (whole_look b)
    go true = refl
    go false = refl
end-look (real value ∷ ts) = refl
end-look (quoted bytes ∷ ts) = refl
end-look (function f ∷ ts) = refl
end-look (sign s ∷ ts) = lower _ _ (let k = sign-low s in omega arith)
end-look (other ∷ ts) = refl

pub comes-look : (k : Kind) (ts : List Symbol) → comes k ts ≡ nat_eq (kind_number k) (look ts)
comes-look (this_mark m) ts = mark-look m ts
comes-look (this_word w) ts = word-look w ts
comes-look a_name ts = name-look ts
comes-look a_whole ts = whole-look ts
comes-look a_real ts = real-look ts
comes-look a_text ts = text-look ts
comes-look the_end ts = end-look ts

pub comes-same : (k : Kind) (ts us : List Symbol) → look ts ≡ look us → comes k ts ≡ comes k us
comes-same k ts us e = comes-look k ts ∙ ap (nat_eq (kind_number k)) e ∙ sym (comes-look k us)

pub look-append : (front ts us : List Symbol) → look ts ≡ look us → look (front ++ ts) ≡ look (front ++ us)
look-append [] ts us e = e
look-append (t ∷ front) ts us e = refl

pub equal-numbers : (a b : ℕ) → nat_eq a b ≡ true → a ≡ b
equal-numbers a b e = grind (arith, nat_tests)

-- ---- a symbol that comes
abbrev pub IsSome : Kind → Type 0
IsSome k = nat_eq (kind_number k) 27 ≡ false

pub record IsFirst (k : Kind) (ts : List Symbol) : Type 0 where
  pub first : Symbol
  pub split : ts ≡ first ∷ drop 1 ts
  pub shorter : length (drop 1 ts) < length ts

pub first-symbol : (k : Kind) (ts : List Symbol) → IsSome k → comes k ts ≡ true → IsFirst k ts
first-symbol k [] some e = absurd (let no : true ≡ false = sym e ∙ comes-look k [] ∙ some in cc)
first-symbol k (t ∷ ts) some e = record { first = t; split = refl; shorter = omega arith }

abbrev pub sample : Kind → Symbol
sample (this_mark m) = mark m
sample (this_word w) = word w
sample a_name = name []
sample a_whole = whole (fraction (pos 0) 1)
sample a_real = real (fraction (pos 2) 1)
sample a_text = quoted []
sample the_end = other

self : (n : ℕ) → nat_eq n n ≡ true
self n = grind (arith, nat_tests)

sample-number : (k : Kind) → IsSome k → nat_eq (kind_number k) (symbol_number (sample k)) ≡ true
sample-number (this_mark m) some = self (mark_code m)
sample-number (this_word w) some = self (10 + word_code w)
sample-number a_name some = refl
sample-number a_whole some = refl
sample-number a_real some = refl
sample-number a_text some = refl
sample-number the_end some = absurd (cc)

pub comes-sample : (k : Kind) (ts : List Symbol) → IsSome k → comes k (sample k ∷ ts) ≡ true
comes-sample k ts some = comes-look k (sample k ∷ ts) ∙ sample-number k some

-- ---- tests below a number
abbrev pub both : Bool → Bool → Bool
both a b = if a then b else false

abbrev pub either : Bool → Bool → Bool
either a b = if a then true else b

abbrev pub implies : Bool → Bool → Bool
implies a b = if a then b else true

pub both-left : (a b : Bool) → both a b ≡ true → a ≡ true
both-left true b e = refl
both-left false b e = cc

pub both-right : (a b : Bool) → both a b ≡ true → b ≡ true
both-right true b e = e
both-right false b e = cc

pub implied : (a b : Bool) → implies a b ≡ true → a ≡ true → b ≡ true
implied true b e h = e
implied false b e h = cc

pub either-left : (a b : Bool) → a ≡ true → either a b ≡ true
either-left true b e = refl
either-left false b e = cc

pub either-right : (a b : Bool) → b ≡ true → either a b ≡ true
either-right true b e = refl
either-right false b e = e

pub opposite : (a : Bool) → not a ≡ true → a ≡ false
opposite true e = cc
opposite false e = refl

abbrev pub under : ℕ → (ℕ → Bool) → Bool
under zero p = true
under (suc n) p = both (p n) (under n p)

pub under-holds : (n : ℕ) (p : ℕ → Bool) (c : ℕ) → under n p ≡ true → c < n → p c ≡ true
under-holds zero p c e h = absurd (omega arith)
under-holds (suc n) p c e h = elim (cases_eq c n) [
  | inl same ↦ subst (λ m. p m ≡ true) (sym same) (both-left (p n) (under n p) e)
  | inr differs ↦ under-holds n p c (both-right (p n) (under n p) e) (omega (arith, h, differs))
]
