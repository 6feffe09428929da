-- The number of a text, by what its digits are.
--   number-some       the decimal digits of a number in the range are this number's
--   number-none       a text that is the digits of no number in the range has none
--   number-plus       a text with a plus in front has none
--   number-zero       a text with a zero before other bytes has none
--   number-parsed     a number in the range that was parsed, from a text with neither
--   number-unparsed   a text that can't be parsed has none
--   digits            the laws of texts without a number, for `number` of the code
use Rattle.std.proofs.Common.{◌≡◌, ◌≢◌, ℕ, zero, suc, ◌^◌, ◌<◌, ◌≤◌, Bool, true, false, ◌&&◌, List, length, get_or, Some, None, refl, sym, ap, subst, ◌∙◌, arith, le-leb, leb-true}
use Rattle.std.specs.Prelude.{decimal, nat_le, if◌then◌else◌}
use Rattle.std.specs.Str.{bytes_eq}
use Rattle.std.specs.Str.Parse.{IsNumeral, ParsesUnsigned, digits_value}
use Rattle.std.specs.declared.result.Result.{Result}
use Rattle.std.specs.declared.result.Result.TheVariants.{Ok, Err}
use Rattle.std.proofs.lemmas.Fmt.{decimal-digits_value, decimal_is_IsNumeral, first_decimal, decimal_digit}
use Rattle.std.proofs.lemmas.Slice.Eq.{bytes_eq-Decides}
use Rattle.std.proofs.lemmas.Str.Parse.{numerals_by_value, tells_digits, without_leading_plus_none}
use Rattle.command_line.specs.Commands.{number_of}

pub number-some : (least most n : ℕ) (text : List ℕ) → digits_value 10 text ≡ n → text ≡ decimal n → least ≤ n → n ≤ most → number_of least most text ≡ Some n
number-some least most n text value is low high =
    let same : bytes_eq text (decimal (digits_value 10 text)) ≡ true = (bytes_eq-Decides _ _).1 (is ∙ ap decimal (sym value)) in
    let above : nat_le least (digits_value 10 text) ≡ true = le-leb _ _ (omega arith) in
    let below : nat_le (digits_value 10 text) most ≡ true = le-leb _ _ (omega arith) in
    ap (λ b. if b && (nat_le least (digits_value 10 text) && nat_le (digits_value 10 text) most) then Some (digits_value 10 text) else None) same
    ∙ ap (λ b. if b && nat_le (digits_value 10 text) most then Some (digits_value 10 text) else None) above
    ∙ ap (λ b. if b then Some (digits_value 10 text) else None) below
    ∙ ap Some value

pub number-none : (least most : ℕ) (text : List ℕ) → (text ≡ decimal (digits_value 10 text) → digits_value 10 text ≤ most → ⊥) → number_of least most text ≡ None
number-none least most text h =
    go (bytes_eq text (decimal (digits_value 10 text))) (nat_le least (digits_value 10 text)) (nat_le (digits_value 10 text) most)
    (λ e l. h ((bytes_eq-Decides _ _).0 e) (leb-true _ _ l))
  where
    go : (a b c : Bool) → (a ≡ true → c ≡ true → ⊥) → (if a && (b && c) then Some (digits_value 10 text) else None) ≡ None
    go true true true never = absurd (never refl refl)
    go true true false never = refl
    go true false c never = refl
    go false b c never = refl

-- the first of the decimal digits of a number
first_digit : (n : ℕ) → n < 2 ^ 64 → 48 ≤ get_or (decimal n) 0 0
first_digit zero h = omega (arith, ap (λ t. get_or t 0 0) (decimal_digit 0 (omega arith)))
first_digit (suc n) h = omega (arith, first_decimal (suc n) (omega arith) h)

pub number-plus : (least most : ℕ) (text : List ℕ) → most < 2 ^ 32 → get_or text 0 0 ≡ 43 → number_of least most text ≡ None
number-plus least most text small plus = number-none least most text (λ is below.
    omega (arith, plus, ap (λ t. get_or t 0 0) is, first_digit (digits_value 10 text) (omega arith)))

-- a number whose digits begin with a zero has this one alone
one_digit : (n : ℕ) → n < 2 ^ 64 → get_or (decimal n) 0 0 ≡ 48 → length (decimal n) ≡ 1
one_digit zero h e = ap (λ t. length t) (decimal_digit 0 (omega arith))
one_digit (suc n) h e = absurd (omega (arith, e, first_decimal (suc n) (omega arith) h))

pub number-zero : (least most : ℕ) (text : List ℕ) → most < 2 ^ 32 → get_or text 0 0 ≡ 48 → 1 < length text → number_of least most text ≡ None
number-zero least most text small first long = number-none least most text (λ is below.
    omega (arith, long, ap (λ t. length t) is, one_digit (digits_value 10 text) (omega arith) (sym (ap (λ t. get_or t 0 0) is) ∙ first)))

pub number-parsed : {E : Type 0} (least most n : ℕ) (text : List ℕ) (r : Result ℕ E) → r ≡ Ok n → ParsesUnsigned 32 10 text r → get_or text 0 0 ≢ 43
    → (get_or text 0 0 ≡ 48 → 1 < length text → ⊥) → least ≤ n → n ≤ most → number_of least most text ≡ Some n
number-parsed {E} least most n text r is parsed no_plus no_zero low high =
    let k = subst (λ q. ParsesUnsigned 32 10 text q) is parsed in
    let bare = without_leading_plus_none text no_plus in
    let some : IsNumeral 10 text = subst (λ t. IsNumeral 10 t) bare k.0.0 in
    let value : digits_value 10 text ≡ n = sym (ap (digits_value 10) bare) ∙ sym k.1 in
    let small : digits_value 10 text < 2 ^ 32 = subst (λ t. digits_value 10 t < 2 ^ 32) bare k.0.1 in
    let back = decimal-digits_value (numerals_by_value _ tells_digits) text some.1 some.0 (λ e. omega (arith, some.0, no_zero e)) (omega (arith, small)) in
    number-some least most n text value (sym back ∙ ap decimal value) low high

pub number-unparsed : {E : Type 0} (least most : ℕ) (e : E) (text : List ℕ) (r : Result ℕ E) → r ≡ Err e → ParsesUnsigned 32 10 text r → get_or text 0 0 ≢ 43
    → most < 2 ^ 32 → number_of least most text ≡ None
number-unparsed {E} least most e text r is parsed no_plus small = number-none least most text (λ own below.
    let k = subst (λ q. ParsesUnsigned 32 10 text q) is parsed in
    let bare = without_leading_plus_none text no_plus in
    let n = digits_value 10 text in
    let some = decimal_is_IsNumeral n (omega arith) in
    k (subst (λ t. IsNumeral 10 t × (digits_value 10 t < 2 ^ 32)) (sym bare) (subst (λ t. IsNumeral 10 t) (sym own) some.0, omega arith)))

pub ruleset digits = (number-plus, number-zero, number-unparsed)
