-- The number of some bytes, by what its digits are.
--   digits-plus       bytes with a plus in front are the digits of no number
--   digits-zero       bytes with a zero before others are those of none
--   digits-parsed     those of a number that was parsed, with neither
--   digits-unparsed   those that can't be parsed are of none
--   digits-text       those that are no text are of none
--   digits            these laws, for the code
use Rattle.std.proofs.Common.{◌≡◌, ◌≢◌, ℕ, zero, suc, ◌^◌, ◌<◌, ◌≤◌, List, length, get_or, sym, ap, subst, ◌∙◌, arith}
use Rattle.std.specs.Prelude.{decimal}
use Rattle.std.specs.Str.Parse.{IsNumeral, ParsesUnsigned, digits_value}
use Rattle.std.specs.declared.result.Result.{Result}
use Rattle.std.specs.declared.result.Result.TheVariants.{Ok, Err}
use Rattle.std.specs.Str.{IsUtf8}
use Rattle.std.proofs.lemmas.Str.{IsUtf8-from_ascii}
use Rattle.std.proofs.lemmas.Fmt.{IsAscii-decimal, decimal-digits_value, decimal_is_IsNumeral, first_decimal, decimal_digit}
use Rattle.std.proofs.lemmas.Str.Parse.{numerals_by_value, tells_digits, without_leading_plus_none}

-- the first of the decimal digits of a number
first_digit : (n : ℕ) → n < 2 ^ 64 → 48 ≤ get_or (decimal n) 0 0
first_digit zero h = omega (arith, ap (λ t. get_or t 0 0) (decimal_digit 0 (omega arith)))
first_digit (suc n) h = omega (arith, first_decimal (suc n) (omega arith) h)

pub digits-plus : (n : ℕ) (text : List ℕ) → n < 2 ^ 32 → get_or text 0 0 ≡ 43 → text ≡ decimal n → ⊥
digits-plus n text small plus is = omega (arith, plus, ap (λ t. get_or t 0 0) is, first_digit n (omega arith))

-- a number whose digits begin with a zero has this one alone
one_digit : (n : ℕ) → n < 2 ^ 64 → get_or (decimal n) 0 0 ≡ 48 → length (decimal n) ≡ 1
one_digit zero h e = ap (λ t. length t) (decimal_digit 0 (omega arith))
one_digit (suc n) h e = absurd (omega (arith, e, first_decimal (suc n) (omega arith) h))

pub digits-zero : (n : ℕ) (text : List ℕ) → n < 2 ^ 32 → get_or text 0 0 ≡ 48 → 1 < length text → text ≡ decimal n → ⊥
digits-zero n text small first long is = omega (arith, long, ap (λ t. length t) is, one_digit n (omega arith) (sym (ap (λ t. get_or t 0 0) is) ∙ first))

pub digits-parsed : {E : Type 0} (n : ℕ) (text : List ℕ) (r : Result ℕ E) → r ≡ Ok n → ParsesUnsigned 32 10 text r → get_or text 0 0 ≢ 43
    → (get_or text 0 0 ≡ 48 → 1 < length text → ⊥) → text ≡ decimal n
digits-parsed {E} n text r is parsed no_plus no_zero =
    let k = subst (λ q. ParsesUnsigned 32 10 text q) is parsed in
    let bare = without_leading_plus_none text no_plus in
    let some : IsNumeral 10 text = subst (λ t. IsNumeral 10 t) bare k.0.0 in
    let value : digits_value 10 text ≡ n = sym (ap (digits_value 10) bare) ∙ sym k.1 in
    let small : digits_value 10 text < 2 ^ 32 = subst (λ t. digits_value 10 t < 2 ^ 32) bare k.0.1 in
    let back = decimal-digits_value (numerals_by_value _ tells_digits) text some.1 some.0 (λ e. omega (arith, some.0, no_zero e)) (omega (arith, small)) in
    sym back ∙ ap decimal value

pub digits-unparsed : {E : Type 0} (n : ℕ) (e : E) (text : List ℕ) (r : Result ℕ E) → r ≡ Err e → ParsesUnsigned 32 10 text r → get_or text 0 0 ≢ 43 → n < 2 ^ 32 → text ≡ decimal n → ⊥
digits-unparsed {E} n e text r is parsed no_plus small own =
    let k = subst (λ q. ParsesUnsigned 32 10 text q) is parsed in
    let bare = without_leading_plus_none text no_plus in
    let some = decimal_is_IsNumeral n (omega arith) in
    let value : digits_value 10 text ≡ n = ap (digits_value 10) own ∙ some.1 in
    k (subst (λ t. IsNumeral 10 t × (digits_value 10 t < 2 ^ 32)) (sym bare) (subst (λ t. IsNumeral 10 t) (sym own) some.0, omega (arith, value, small)))

pub digits-text : (n : ℕ) (text : List ℕ) → n < 2 ^ 32 → (IsUtf8 text → ⊥) → text ≡ decimal n → ⊥
digits-text n text small bad is = bad (subst IsUtf8 (sym is) (IsUtf8-from_ascii (decimal n) (IsAscii-decimal n (omega arith))))

pub ruleset digits = (digits-plus, digits-zero, digits-unparsed, digits-text)
