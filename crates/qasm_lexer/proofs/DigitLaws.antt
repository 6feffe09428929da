-- The numbers that digits write.
--   number-front       all digits, as the first so many
--   front_number-lt    a bound
--   front_number-more  zeros at the end
use Rattle.std.proofs.Common.{◌≡◌, ℕ, zero, suc, ◌+◌, ◌*◌, ◌^◌, ◌<◌, ◌≤◌, [], ◌∷◌, ◌++◌, refl, sym, ap, ◌∙◌, arith, length, slice_index, length-append, append_assoc, add-one}
use Rattle.std.proofs.lemmas.List.{get_or_past}
use Rattle.std.proofs.Math.Nat.{pow-suc, pow-zero, add-zero, add-suc}
use Rattle.qasm_lexer.specs.Forms.{Bytes}
use Rattle.qasm_lexer.specs.Numbers.{digit, front_number, number, number_after}

pub digit_le : (b : ℕ) → digit b ≤ 9
unfolding digit
digit_le b = grind arith

pub front_number-next : (t : Bytes) (n : ℕ) → front_number t (n + 1) ≡ front_number t n * 10 + digit (slice_index t n)
unfolding front_number
front_number-next t n = rw add-one refl

-- the digits behind those that are read
at_next : (read t : Bytes) (b : ℕ) → slice_index (read ++ b ∷ t) (length read) ≡ b
at_next [] t b = refl
at_next (a ∷ read) t b = at_next read t b

read_on : (read t all : Bytes) → all ≡ read ++ t → number_after (front_number all (length read)) t ≡ front_number all (length all)
read_on read [] all e = ap (λ n. front_number all n) (sym (ap length e ∙ length-append read [] ∙ omega arith))
read_on read (b ∷ t) all e =
    let more : all ≡ (read ++ b ∷ []) ++ t = e ∙ sym (append_assoc read (b ∷ []) t) in
    let next : front_number all (length (read ++ b ∷ [])) ≡ front_number all (length read) * 10 + digit b =
    ap (λ n. front_number all n) (length-append read (b ∷ []))
    ∙ front_number-next all (length read)
    ∙ ap (λ c. front_number all (length read) * 10 + digit c) (ap (λ (z : Bytes). slice_index z (length read)) e ∙ at_next read t b) in
    ap (λ n. number_after n t) (sym next) ∙ read_on (read ++ b ∷ []) t all more

pub number-front : (t : Bytes) → number t ≡ front_number t (length t)
unfolding number front_number
number-front t = read_on [] t t refl

pub front_number-lt : (t : Bytes) (n : ℕ) → front_number t n < 10 ^ n
unfolding front_number
front_number-lt t zero = rw pow-zero (omega arith)
front_number-lt t (suc n) =
    let less = front_number-lt t n in
    let low = digit_le (slice_index t n) in
    rw pow-suc (omega arith)

-- zeros at the end
past_end : (t : Bytes) (k : ℕ) → slice_index t (length t + k) ≡ 0
past_end t k = get_or_past t (length t + k) 0 (omega arith)

no_digit : digit 0 ≡ 0
unfolding digit
no_digit = refl

pub front_number-more : (t : Bytes) (k : ℕ) → front_number t (length t + k) ≡ number t * 10 ^ k
front_number-more t zero = rw (add-zero, pow-zero) (sym (number-front t) ∙ omega arith)
front_number-more t (suc k) =
    let step : front_number t (length t + suc k) ≡ front_number t (length t + k) * 10 + digit (slice_index t (length t + k)) =
    ap (λ n. front_number t n) (add-suc (length t) k ∙ sym (add-one (length t + k))) ∙ front_number-next t (length t + k) in
    let none : digit (slice_index t (length t + k)) ≡ 0 = ap digit (past_end t k) ∙ no_digit in
    let before = front_number-more t k in
    step ∙ rw (none, before, pow-suc) (omega arith)

pub front_number-zero : (t : Bytes) → front_number t 0 ≡ 0
unfolding front_number
front_number-zero t = refl

pub digit-past : (t : Bytes) (i : ℕ) → length t ≤ i → 0 ≡ digit (slice_index t i)
digit-past t i past = sym (ap digit (get_or_past t i 0 past) ∙ no_digit)
