-- The bits of a number as bits of a list.
--   bit-at         the bit at a wire
--   bits-put       a bit that is put
--   put-below      .. keeps the number below 2^n
--   bit-past, bits-past        a wire that isn't there
--   put_made       a bit that is taken away and put
--   number_step    the number of some bits, from the last one on
--   bits_same      equal bits are equal numbers
--   same_bits-own, same_bits-equal     lists that are the same
use Rattle.std.proofs.Common.{◌≡◌, ℕ, zero, suc, ◌+◌, ◌-◌, ◌*◌, ◌^◌, ◌/◌, ◌%◌, ◌<◌, ◌≤◌, Bool, true, false, cond, List, [], ◌∷◌, length, get_or, drop, refl, sym, ap, ◌∙◌, subst, arith}
use Rattle.std.specs.Prelude.{◌==◌}
use mir.Val.{bool_byte}
use Rattle.std.proofs.Math.Seq.{drop-cons}
use Rattle.std.proofs.Math.Nat.{div-div-eq-div-mul, div-mul-le_self, mul-le-mul_right, pow-succ'}
use Rattle.std.proofs.lemmas.Bool.Decides.{nat_tests}
use Rattle.unitary_model.specs.Amplitude.{bit_of, with_bit, same_bits}
use Rattle.amplitude_exact.specs.Columns.{bits}

-- of the number i: the bit that p = 2^q stands for, and i with this bit put
abbrev pub has_bit : ℕ → ℕ → Bool
has_bit i p = i / p % 2 == 1

abbrev pub put : ℕ → ℕ → Bool → ℕ
put i p b = i - cond (has_bit i p) p 0 + cond b p 0

-- one bit further
next-bit : (i p : ℕ) → has_bit i (2 * p) ≡ has_bit (i / 2) p
next-bit i p = ap (λ k. k % 2 == 1) (sym (div-div-eq-div-mul i 2 p))

one_if : (k : ℕ) → (k % 2 == 1) ≡ true → 1 ≤ k
one_if k e = grind (arith, nat_tests)

-- a bit that is there
bit-le : (i p : ℕ) → has_bit i p ≡ true → p ≤ i
bit-le i p e = omega (arith, mul-le-mul_right p (one_if (i / p) e), div-mul-le_self i p)

put-half : (t b : Bool) (i p : ℕ) → (t ≡ true → p ≤ i / 2) → ((i - cond t (2 * p) 0) + cond b (2 * p) 0) / 2 ≡ (i / 2 - cond t p 0) + cond b p 0
put-half true true i p h = let l = h refl in omega (arith, l)
put-half true false i p h = let l = h refl in omega (arith, l)
put-half false true i p h = omega arith
put-half false false i p h = omega arith

put-odd : (t b : Bool) (i p : ℕ) → (t ≡ true → p ≤ i / 2) → ((i - cond t (2 * p) 0) + cond b (2 * p) 0) % 2 ≡ i % 2
put-odd true true i p h = let l = h refl in omega (arith, l)
put-odd true false i p h = let l = h refl in omega (arith, l)
put-odd false true i p h = omega arith
put-odd false false i p h = omega arith

pub next-put : (i p : ℕ) (b : Bool) → (put i (2 * p) b / 2 ≡ put (i / 2) p b) × (put i (2 * p) b % 2 ≡ i % 2)
next-put i p b = (
  put-half (has_bit i (2 * p)) b i p le ∙ ap (λ t. i / 2 - cond t p 0 + cond b p 0) (next-bit i p),
  put-odd (has_bit i (2 * p)) b i p le,
)
  where
    le : has_bit i (2 * p) ≡ true → p ≤ i / 2
    le e = bit-le (i / 2) p (sym (next-bit i p) ∙ e)

-- the first bit
put-first : (t b : Bool) (i : ℕ) → (i % 2 == 1) ≡ t → (((i - cond t 1 0) + cond b 1 0) / 2 ≡ i / 2) × ((((i - cond t 1 0) + cond b 1 0) % 2 == 1) ≡ b)
put-first true true i e = let o = odd i e in (omega (arith, o), grind (arith, nat_tests, o))
  where
    odd : (i : ℕ) → (i % 2 == 1) ≡ true → i % 2 ≡ 1
    odd i e = grind (arith, nat_tests)
put-first true false i e = let o = odd i e in (omega (arith, o), even (i - 1 + 0) (omega (arith, o)))
  where
    odd : (i : ℕ) → (i % 2 == 1) ≡ true → i % 2 ≡ 1
    odd i e = grind (arith, nat_tests)

    even : (k : ℕ) → k % 2 ≡ 0 → (k % 2 == 1) ≡ false
    even k e = grind (arith, nat_tests)
put-first false true i e = let o = off i e in (omega (arith, o), on (i - 0 + 1) (omega (arith, o)))
  where
    off : (i : ℕ) → (i % 2 == 1) ≡ false → i % 2 ≡ 0
    off i e = grind (arith, nat_tests)

    on : (k : ℕ) → k % 2 ≡ 1 → (k % 2 == 1) ≡ true
    on k e = grind (arith, nat_tests)
put-first false false i e = let o = off i e in (omega (arith, o), even (i - 0 + 0) (omega (arith, o)))
  where
    off : (i : ℕ) → (i % 2 == 1) ≡ false → i % 2 ≡ 0
    off i e = grind (arith, nat_tests)

    even : (k : ℕ) → k % 2 ≡ 0 → (k % 2 == 1) ≡ false
    even k e = grind (arith, nat_tests)

by_one : (i : ℕ) → i / 1 ≡ i
by_one i = omega arith

-- ---- wires
pub bit-at : (n i q : ℕ) → q < n → bit_of (bits n i) q ≡ has_bit i (2 ^ q)
bit-at zero i q l = absurd (omega arith)
bit-at (suc n) i zero l = ap (λ k. k % 2 == 1) (sym (by_one i))
bit-at (suc n) i (suc q) l = bit-at n (i / 2) q (omega arith) ∙ sym (next-bit i (2 ^ q)) ∙ ap (has_bit i) (sym (pow-succ' 2 q))

pub bits-put : (n i q : ℕ) (b : Bool) → q < n → bits n (put i (2 ^ q) b) ≡ with_bit (bits n i) q b
bits-put zero i q b l = absurd (omega arith)
bits-put (suc n) i zero b l =
    ap (λ t. bits (suc n) (i - cond t 1 0 + cond b 1 0)) (ap (λ k. k % 2 == 1) (by_one i))
    ∙ (let s = put-first (i % 2 == 1) b i refl in λ z. s.1 z ∷ bits n (s.0 z))
bits-put (suc n) i (suc q) b l =
    ap (λ p. bits (suc n) (put i p b)) (pow-succ' 2 q)
    ∙ (let s = next-put i (2 ^ q) b in λ z. (s.1 z == 1) ∷ bits n (s.0 z))
    ∙ ap (λ (x : List Bool). (i % 2 == 1) ∷ x) (bits-put n (i / 2) q b (omega arith))

pub put-below : (n i q : ℕ) (b : Bool) → q < n → i < 2 ^ n → put i (2 ^ q) b < 2 ^ n
put-below zero i q b l h = absurd (omega arith)
put-below (suc n) i zero b l h =
    let s = put-first (i % 2 == 1) b i refl in
    let same : put i 1 b ≡ i - cond (i % 2 == 1) 1 0 + cond b 1 0 = ap (λ t. i - cond t 1 0 + cond b 1 0) (ap (λ k. k % 2 == 1) (by_one i)) in
    omega (arith, s.0, same, pow-succ' 2 n, h)
put-below (suc n) i (suc q) b l h =
    let s = next-put i (2 ^ q) b in
    let same = ap (λ p. put i p b) (pow-succ' 2 q) in
    omega (arith, s.0, same, pow-succ' 2 n, put-below n (i / 2) q b (omega arith) (omega (arith, h, pow-succ' 2 n)))

-- ---- wires that aren't there
pub length-bits : (n i : ℕ) → length (bits n i) ≡ n
length-bits zero i = refl
length-bits (suc n) i = ap suc (length-bits n (i / 2))

pub bit-past : (n i q : ℕ) → n ≤ q → bit_of (bits n i) q ≡ false
bit-past zero i q l = refl
bit-past (suc n) i zero l = absurd (omega arith)
bit-past (suc n) i (suc q) l = bit-past n (i / 2) q (omega arith)

pub bits-past : (n i q : ℕ) (b : Bool) → n ≤ q → bits n i ≡ with_bit (bits n i) q b
bits-past zero i q b l = refl
bits-past (suc n) i zero b l = absurd (omega arith)
bits-past (suc n) i (suc q) b l = ap (λ (x : List Bool). (i % 2 == 1) ∷ x) (bits-past n (i / 2) q b (omega arith))

-- ---- a bit put, as it is computed
put_by : (i p r : ℕ) (s b : Bool) → has_bit i p ≡ s → r ≡ i - cond s p 0 + cond b p 0 → r ≡ put i p b
put_by i p r s b e h = h ∙ (λ j. i - cond (sym e j) p 0 + cond b p 0)

pub put_bits : (n i q r : ℕ) (s b : Bool) → q < n → bit_of (bits n i) q ≡ s → r ≡ i - cond s (2 ^ q) 0 + cond b (2 ^ q) 0 → bits n r ≡ with_bit (bits n i) q b
put_bits n i q r s b l e h = ap (bits n) (put_by i (2 ^ q) r s b (sym (bit-at n i q l) ∙ e) h) ∙ bits-put n i q b l

pub put_below : (n i q r : ℕ) (s b : Bool) → q < n → i < 2 ^ n → bit_of (bits n i) q ≡ s → r ≡ i - cond s (2 ^ q) 0 + cond b (2 ^ q) 0 → r < 2 ^ n
put_below n i q r s b l f e h = subst (λ k. k < 2 ^ n) (sym (put_by i (2 ^ q) r s b (sym (bit-at n i q l) ∙ e) h)) (put-below n i q b l f)

-- the same where the bit is first taken away and then put
pub put_made : (n i q place cleared r : ℕ) (had b : Bool) → q < n → i < 2 ^ n → had ≡ bit_of (bits n i) q → place ≡ 2 ^ q →
    cleared ≡ i - cond had place 0 → r ≡ cleared + cond b place 0 → (bits n r ≡ with_bit (bits n i) q b) × (r < 2 ^ n)
put_made n i q place cleared r had b l f e p g h = (put_bits n i q r had b l (sym e) made, put_below n i q r had b l f (sym e) made)
  where
    made : r ≡ i - cond had (2 ^ q) 0 + cond b (2 ^ q) 0
    made = h ∙ (λ j. g j + cond b place 0) ∙ (λ j. i - cond had (p j) 0 + cond b (p j) 0)

pub place_le : (n i q : ℕ) → q < n → bit_of (bits n i) q ≡ true → 2 ^ q ≤ i
place_le n i q l e = bit-le i (2 ^ q) (sym (bit-at n i q l) ∙ e)

-- ---- the number of some bits
half_of : (b : Bool) (i : ℕ) → ((2 * i + cond b 1 0) / 2 ≡ i) × (((2 * i + cond b 1 0) % 2 == 1) ≡ b)
half_of true i = (omega arith, on (2 * i + 1) (omega arith))
  where
    on : (k : ℕ) → k % 2 ≡ 1 → (k % 2 == 1) ≡ true
    on k e = grind (arith, nat_tests)
half_of false i = (omega arith, off (2 * i + 0) (omega arith))
  where
    off : (k : ℕ) → k % 2 ≡ 0 → (k % 2 == 1) ≡ false
    off k e = grind (arith, nat_tests)

number_more : (n i r : ℕ) (b : Bool) (x : List Bool) → bits n i ≡ x → i < 2 ^ n → r ≡ 2 * i + cond b 1 0 → (bits (suc n) r ≡ b ∷ x) × (r < 2 ^ suc n)
number_more n i r b x e l h = (
  ap (bits (suc n)) h ∙ (λ z. (half_of b i).1 z ∷ bits n ((half_of b i).0 z)) ∙ ap (λ (y : List Bool). b ∷ y) e,
  below b h,
)
  where
    below : (b : Bool) → r ≡ 2 * i + cond b 1 0 → r < 2 ^ suc n
    below true h = omega (arith, l, h, pow-succ' 2 n)
    below false h = omega (arith, l, h, pow-succ' 2 n)

pub number_step : (x : List Bool) (left i r : ℕ) → 0 < left → left ≤ length x → i < 2 ^ (length x - left) → bits (length x - left) i ≡ drop left x →
    r ≡ 2 * i + bool_byte (get_or x (left - 1) false) → (r < 2 ^ (length x - (left - 1))) × (bits (length x - (left - 1)) r ≡ drop (left - 1) x)
number_step x left i r some le below same e = (
  subst (λ n. r < 2 ^ n) wide more.1,
  ap (λ n. bits n r) (sym wide) ∙ more.0 ∙ (λ j. get_or x (left - 1) false ∷ drop (sym back j) x) ∙ sym (drop-cons x (left - 1) false (omega arith)),
)
  where
    wide : suc (length x - left) ≡ length x - (left - 1)
    wide = omega arith

    back : suc (left - 1) ≡ left
    back = omega arith

    byte : (b : Bool) → bool_byte b ≡ cond b 1 0
    byte true = refl
    byte false = refl

    more : (bits (suc (length x - left)) r ≡ get_or x (left - 1) false ∷ drop left x) × (r < 2 ^ suc (length x - left))
    more = number_more (length x - left) i r (get_or x (left - 1) false) (drop left x) same below (e ∙ ap (λ k. 2 * i + k) (byte (get_or x (left - 1) false)))

-- equal bits below 2^n are equal numbers
same_half : (i j : ℕ) → (i % 2 == 1) ≡ (j % 2 == 1) → i / 2 ≡ j / 2 → i ≡ j
same_half i j e h = let r : i % 2 ≡ j % 2 = rest (i % 2) (j % 2) (omega arith) (omega arith) e in omega (arith, r, h)
  where
    rest : (a b : ℕ) → a < 2 → b < 2 → (a == 1) ≡ (b == 1) → a ≡ b
    rest a b l m e = grind (arith, nat_tests)

pub bits_same : (n i j : ℕ) → i < 2 ^ n → j < 2 ^ n → bits n i ≡ bits n j → i ≡ j
bits_same zero i j l m e = omega (arith, l, m)
bits_same (suc n) i j l m e = same_half i j (ap (λ x. bit_of x 0) e)
    (bits_same n (i / 2) (j / 2) (omega (arith, l, pow-succ' 2 n)) (omega (arith, m, pow-succ' 2 n)) (ap tail e))
  where
    tail : List Bool → List Bool
    tail [] = []
    tail (b ∷ x) = x

-- ---- the same bits
pub same_bits-own : (x : List Bool) → same_bits x x ≡ true
same_bits-own [] = refl
same_bits-own (true ∷ x) = same_bits-own x
same_bits-own (false ∷ x) = same_bits-own x

pub same_bits-equal : (x y : List Bool) → same_bits x y ≡ true → x ≡ y
same_bits-equal [] [] e = refl
same_bits-equal [] (b ∷ y) e = cc
same_bits-equal (true ∷ x) [] e = cc
same_bits-equal (false ∷ x) [] e = cc
same_bits-equal (true ∷ x) (true ∷ y) e = ap (λ (z : List Bool). true ∷ z) (same_bits-equal x y e)
same_bits-equal (true ∷ x) (false ∷ y) e = cc
same_bits-equal (false ∷ x) (true ∷ y) e = cc
same_bits-equal (false ∷ x) (false ∷ y) e = ap (λ (z : List Bool). false ∷ z) (same_bits-equal x y e)
