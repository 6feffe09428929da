-- Fractions in lowest terms.
--   common_factor-by, common_factor-is   the common factor of a fraction is the greatest common divisor of its parts
--   lowest_by            lowest terms, by any greatest common divisor
--   kept_by, fitted_by, too_large   the parts without a common divisor are kept, where they are small; else there is no value
--   kept, fits, past     the same for parts as the code has them
--   factor_bound         a common divisor fits where the denominator does
--   kept_over, kept_over_less, inverse-above, inverse-below, over, over_less   1 over what is kept
--   lowest_reduced, lowest_lowest   lowest terms have the value, and are lowest
--   lowest_same, fitted_same   equal fractions are equal in lowest terms, and have one value
use Rattle.std.proofs.Common.{◌≡◌, ℕ, zero, suc, ◌*◌, ◌/◌, ◌<◌, ◌≤◌, ◌==◌, ◌&&◌, ◌⊎◌, true, false, if◌then◌else◌, ◌^◌, FitsSigned, ℤ, pos, negsuc, neg_ℤ, Ok, Err, refl, sym, ap, ◌∙◌, subst, arith, nat_le, unsigned_abs, ◌*ℤ◌}
use Rattle.std.specs.Prelude.{◌<ℤ◌, ◌≤ℤ◌}
use Rattle.std.specs.Int.{IsGcd, w128, ◌∣◌}
use Rattle.std.specs.Int.RustNames.{int_div}
use Rattle.std.proofs.lemmas.Int.{ints}
use Rattle.std.proofs.lemmas.Nat.Gcd.{IsGcd-swap}
use Rattle.std.proofs.Math.Nat.{zero-lt-suc, mul-pos, lt_of_le_of_lt, pos_of_dvd_of_pos, le_of_dvd, div-mul_cancel, dvd-mul_right}
use Rattle.angle_fraction.specs.Fraction.{Fraction, IsSmallFraction, IsLowest, IsReduced, common_factor, fraction, inverse_of, is_small, lowest, most_part}
use Rattle.angle_fraction.specs.Angles.{fitted}
use Rattle.angle_fraction.specs.declared.AngleFault.TheVariants.{Range}
use Rattle.angle_fraction.proofs.FactorLaws.{coprime-parts, greatest_common_is, has_gcd, same_lowest}

pub common_factor-by : (num : ℤ) (den g : ℕ) → 0 < den → IsGcd (unsigned_abs num) den g → common_factor (fraction num den) ≡ g
unfolding common_factor
common_factor-by num den g some h =
    greatest_common_is den (unsigned_abs num) den g h (pos_of_dvd_of_pos h.1 some) (le_of_dvd some h.1)

pub common_factor-is : (x : Fraction) → 0 < x.den → IsGcd (unsigned_abs x.num) x.den (common_factor x)
common_factor-is x some =
    let g = has_gcd x.den (unsigned_abs x.num) x.den (omega arith) in
    subst (λ n. IsGcd (unsigned_abs x.num) x.den n) (sym (common_factor-by x.num x.den g.factor some g.is)) g.is

pub lowest_by : (num : ℤ) (den g : ℕ) → 0 < den → IsGcd (unsigned_abs num) den g
    → lowest (fraction num den) ≡ fraction (int_div num (pos g)) (den / g)
unfolding lowest
lowest_by num den g some h = ap (λ n. fraction (int_div num (pos n)) (den / n)) (common_factor-by num den g some h)

unsigned_abs-int_div : (num : ℤ) (g : ℕ) → unsigned_abs (int_div num (pos g)) ≡ unsigned_abs num / g
unsigned_abs-int_div (pos n) g = refl
unsigned_abs-int_div (negsuc n) g = by_size (suc n / g)
  where
    by_size : (m : ℕ) → unsigned_abs (neg_ℤ (pos m)) ≡ m
    by_size zero = refl
    by_size (suc m) = refl

pub lowest_reduced : (x : Fraction) → 0 < x.den → IsReduced x (lowest x)
lowest_reduced x some =
    let g = common_factor-is x some in
    record { factor = common_factor x; in_num = g.0; in_den = g.1; is = lowest_by x.num x.den (common_factor x) some g }

lowest_parts : (num : ℤ) (den g : ℕ) → 0 < den → IsGcd (unsigned_abs num) den g → IsLowest (fraction (int_div num (pos g)) (den / g))
lowest_parts num den g some h =
    let above : 0 < g = pos_of_dvd_of_pos h.1 some in
    let less : 0 < den / g = pos_of_dvd_of_pos (subst (λ n. den / g ∣ n) (div-mul_cancel g h.1) (dvd-mul_right (den / g) g)) some in
    record {
      positive = less;
      coprime = common_factor-by (int_div num (pos g)) (den / g) 1 less (rw unsigned_abs-int_div (coprime-parts (unsigned_abs num) den g above h));
    }

pub lowest_lowest : (x : Fraction) → 0 < x.den → IsLowest (lowest x)
lowest_lowest x some =
    let g = common_factor-is x some in
    subst IsLowest (sym (lowest_by x.num x.den (common_factor x) some g)) (lowest_parts x.num x.den (common_factor x) some g)

-- ---- what the code keeps
pub kept_by : (num den : ℤ) (g : ℕ) → pos 0 <ℤ den → IsGcd (unsigned_abs num) (unsigned_abs den) g
    → unsigned_abs (int_div num (pos g)) ≤ most_part → unsigned_abs (int_div den (pos g)) ≤ most_part
    → IsSmallFraction (int_div num (pos g)) (int_div den (pos g))
kept_by num (negsuc d) g h k small low = absurd (omega (arith, ints, h))
kept_by num (pos d) g h k small low =
    let some : 0 < d = omega (arith, ints, h) in
    let g_some : 0 < g = pos_of_dvd_of_pos k.1 some in
    let less : 0 < d / g = pos_of_dvd_of_pos (subst (λ n. d / g ∣ n) (div-mul_cancel g k.1) (dvd-mul_right (d / g) g)) some in
    record {
      positive = omega (arith, ints);
      lowest = record {
        positive = less;
        coprime = common_factor-by (int_div num (pos g)) (d / g) 1 less
            (rw unsigned_abs-int_div (coprime-parts (unsigned_abs num) d g g_some k));
      };
      num_size = small;
      den_size = low;
    }

small_test : (a b m : ℕ) → a ≤ m → b ≤ m → (nat_le a m && nat_le b m) ≡ true
small_test a b m h k = grind arith

pub large_test : (a b m : ℕ) → (m < a) ⊎ (m < b) → (nat_le a m && nat_le b m) ≡ false
large_test a b m big = grind arith

pub fitted_by : (num den : ℤ) (g : ℕ) → pos 0 <ℤ den → IsGcd (unsigned_abs num) (unsigned_abs den) g
    → unsigned_abs (int_div num (pos g)) ≤ most_part → unsigned_abs (int_div den (pos g)) ≤ most_part
    → Ok (fraction (int_div num (pos g)) (unsigned_abs (int_div den (pos g)))) ≡ fitted (fraction num (unsigned_abs den))
unfolding fitted is_small
fitted_by num (negsuc d) g h k small low = absurd (omega (arith, ints, h))
fitted_by num (pos d) g h k small low =
    let some : 0 < d = omega (arith, ints, h) in
    rw (lowest_by num d g some k, small_test (unsigned_abs (int_div num (pos g))) (d / g) most_part small low) refl

pub too_large : (num den : ℤ) (g : ℕ) → pos 0 <ℤ den → IsGcd (unsigned_abs num) (unsigned_abs den) g
    → (most_part < unsigned_abs (int_div num (pos g))) ⊎ (most_part < unsigned_abs (int_div den (pos g)))
    → Err Range ≡ fitted (fraction num (unsigned_abs den))
unfolding fitted is_small
too_large num (negsuc d) g h k big = absurd (omega (arith, ints, h))
too_large num (pos d) g h k big =
    let some : 0 < d = omega (arith, ints, h) in
    rw (lowest_by num d g some k, large_test (unsigned_abs (int_div num (pos g))) (d / g) most_part big) refl

-- ---- the same, for parts as the code has them
pub kept : (num den g n d : ℤ) → pos 0 <ℤ den → pos 0 <ℤ g → IsGcd (unsigned_abs num) (unsigned_abs den) (unsigned_abs g)
    → n ≡ int_div num g → d ≡ int_div den g → unsigned_abs n ≤ most_part → unsigned_abs d ≤ most_part → IsSmallFraction n d
kept num den (negsuc g) n d h k is e f small low = absurd (omega (arith, ints, k))
kept num den (pos g) n d h k is e f small low =
    rw (e, f) (kept_by num den g h is (subst (λ z. unsigned_abs z ≤ most_part) e small) (subst (λ z. unsigned_abs z ≤ most_part) f low))

pub fits : (num den g n d : ℤ) → pos 0 <ℤ den → pos 0 <ℤ g → IsGcd (unsigned_abs num) (unsigned_abs den) (unsigned_abs g)
    → n ≡ int_div num g → d ≡ int_div den g → unsigned_abs n ≤ most_part → unsigned_abs d ≤ most_part
    → Ok (fraction n (unsigned_abs d)) ≡ fitted (fraction num (unsigned_abs den))
fits num den (negsuc g) n d h k is e f small low = absurd (omega (arith, ints, k))
fits num den (pos g) n d h k is e f small low =
    rw (e, f) (fitted_by num den g h is (subst (λ z. unsigned_abs z ≤ most_part) e small) (subst (λ z. unsigned_abs z ≤ most_part) f low))

pub past : (num den g n d : ℤ) → pos 0 <ℤ den → pos 0 <ℤ g → IsGcd (unsigned_abs num) (unsigned_abs den) (unsigned_abs g)
    → n ≡ int_div num g → d ≡ int_div den g → (most_part < unsigned_abs n) ⊎ (most_part < unsigned_abs d)
    → Err Range ≡ fitted (fraction num (unsigned_abs den))
past num den (negsuc g) n d h k is e f big = absurd (omega (arith, ints, k))
past num den (pos g) n d h k is e f big =
    too_large num den g h is
    (subst (λ z. (most_part < unsigned_abs z) ⊎ (most_part < unsigned_abs (int_div den (pos g)))) e
    (subst (λ z. (most_part < unsigned_abs n) ⊎ (most_part < unsigned_abs z)) f big))

-- a common factor of two parts is above 0, and fits where the denominator does
pub factor_bound : (num den : ℤ) (g : ℕ) → pos 0 <ℤ den → FitsSigned w128 den → IsGcd (unsigned_abs num) (unsigned_abs den) g
    → (0 < g) × (g < 2 ^ 127)
factor_bound num (negsuc d) g h fit k = absurd (omega (arith, ints, h))
factor_bound num (pos d) g h fit k =
    let some : 0 < d = omega (arith, ints, h) in
    let le : g ≤ d = le_of_dvd some k.1 in
    (pos_of_dvd_of_pos k.1 some, lt_of_le_of_lt le fit.sfits)

-- ---- 1 over what is kept
swapped : (x : Fraction) → IsLowest x → IsGcd x.den (unsigned_abs x.num) 1
swapped x h =
    IsGcd-swap (unsigned_abs x.num) x.den 1 (subst (λ n. IsGcd (unsigned_abs x.num) x.den n) h.coprime (common_factor-is x h.positive))

above_zero : (n : ℕ) → (n == 0) ≡ false → 0 < n
above_zero zero e = absurd (cc)
above_zero (suc n) e = zero-lt-suc n

pub kept_over : (num : ℤ) (den : ℕ) → IsLowest (fraction num den) → unsigned_abs num ≤ most_part → den ≤ most_part
    → (unsigned_abs num == 0) ≡ false → pos 0 ≤ℤ num → IsSmallFraction (pos den) num
kept_over (negsuc n) den h small low some up = absurd (omega (arith, ints, up))
kept_over (pos n) den h small low some up =
    let above : 0 < n = above_zero n some in record {
      positive = omega (arith, ints);
      lowest = record { positive = above; coprime = common_factor-by (pos den) n 1 above (swapped (fraction (pos n) den) h) };
      num_size = low;
      den_size = small;
    }

size-neg : (den : ℕ) → unsigned_abs (neg_ℤ (pos den)) ≡ den
size-neg zero = refl
size-neg (suc d) = refl

pub kept_over_less : (num : ℤ) (den : ℕ) → IsLowest (fraction num den) → unsigned_abs num ≤ most_part → den ≤ most_part
    → num <ℤ pos 0 → IsSmallFraction (neg_ℤ (pos den)) (neg_ℤ num)
kept_over_less (pos n) den h small low down = absurd (omega (arith, ints, down))
kept_over_less (negsuc n) den h small low down = record {
  positive = omega (arith, ints);
  lowest = record {
    positive = zero-lt-suc n;
    coprime = common_factor-by (neg_ℤ (pos den)) (suc n) 1 (zero-lt-suc n)
        (rw size-neg (swapped (fraction (negsuc n) den) h));
  };
  num_size = rw size-neg low;
  den_size = small;
}

pub inverse-above : (num : ℤ) (den : ℕ) → pos 0 ≤ℤ num → fraction (pos den) (unsigned_abs num) ≡ inverse_of (fraction num den)
inverse-above (pos n) den up = refl
inverse-above (negsuc n) den up = absurd (omega (arith, ints, up))

pub inverse-below : (num : ℤ) (den : ℕ) → num <ℤ pos 0
    → fraction (neg_ℤ (pos den)) (unsigned_abs (neg_ℤ num)) ≡ inverse_of (fraction num den)
inverse-below (pos n) den down = absurd (omega (arith, ints, down))
inverse-below (negsuc n) den down = refl

-- ---- the same, for parts as the code has them
pub over : (x : Fraction) (num n d : ℤ) → IsLowest x → num ≡ x.num → unsigned_abs num ≤ most_part → x.den ≤ most_part
    → (unsigned_abs x.num == 0) ≡ false → pos 0 ≤ℤ num → n ≡ pos x.den → d ≡ num → IsSmallFraction n d
over x num n d h e small low some up f g =
    let size = subst (λ z. unsigned_abs z ≤ most_part) e small in
    let sign = subst (λ z. pos 0 ≤ℤ z) e up in
    rw (f, g ∙ e) (kept_over x.num x.den h size low some sign)

pub over_less : (x : Fraction) (num n d : ℤ) → IsLowest x → num ≡ x.num → unsigned_abs num ≤ most_part → x.den ≤ most_part
    → num <ℤ pos 0 → n ≡ neg_ℤ (pos x.den) → d ≡ neg_ℤ num → IsSmallFraction n d
over_less x num n d h e small low down f g =
    let size = subst (λ z. unsigned_abs z ≤ most_part) e small in
    let sign = subst (λ z. z <ℤ pos 0) e down in
    rw (f, g ∙ ap neg_ℤ e) (kept_over_less x.num x.den h size low sign)

-- ---- equal fractions
abs-eq : (m n : ℕ) → neg_ℤ (pos m) ≡ neg_ℤ (pos n) → m ≡ n
abs-eq m n e = sym (size-neg m) ∙ ap unsigned_abs e ∙ size-neg n

no_sign : (m n : ℕ) → pos m ≡ neg_ℤ (pos n) → 0 < n → ⊥
no_sign m n e some = omega (arith, ints)

pub lowest_same : (x y : Fraction) → 0 < x.den → 0 < y.den → x.num *ℤ pos y.den ≡ y.num *ℤ pos x.den → lowest x ≡ lowest y
unfolding lowest
lowest_same x y some other e = by_sign x.num y.num e (common_factor-is x some) (common_factor-is y other)
  where
    by_sign : (m n : ℤ) → m *ℤ pos y.den ≡ n *ℤ pos x.den → IsGcd (unsigned_abs m) x.den (common_factor x)
        → IsGcd (unsigned_abs n) y.den (common_factor y)
        → fraction (int_div m (pos (common_factor x))) (x.den / common_factor x)
        ≡ fraction (int_div n (pos (common_factor y))) (y.den / common_factor y)
    by_sign (pos a) (pos b) f g h =
        let same = same_lowest a x.den b y.den (common_factor x) (common_factor y) some other g h (ap unsigned_abs f) in
        λ i. fraction (pos (same.0 i)) (same.1 i)
    by_sign (negsuc a) (negsuc b) f g h =
        let same = same_lowest (suc a) x.den (suc b) y.den (common_factor x) (common_factor y) some other g h
        (abs-eq (suc a * y.den) (suc b * x.den) f) in
        λ i. fraction (neg_ℤ (pos (same.0 i))) (same.1 i)
    by_sign (pos a) (negsuc b) f g h = absurd (no_sign (a * y.den) (suc b * x.den) f (mul-pos (zero-lt-suc b) some))
    by_sign (negsuc a) (pos b) f g h = absurd (no_sign (b * x.den) (suc a * y.den) (sym f) (mul-pos (zero-lt-suc a) other))

pub fitted_same : (x y : Fraction) → 0 < x.den → 0 < y.den → x.num *ℤ pos y.den ≡ y.num *ℤ pos x.den → fitted x ≡ fitted y
unfolding fitted
fitted_same x y some other e = ap (λ z. if is_small z then Ok z else Err Range) (lowest_same x y some other e)
