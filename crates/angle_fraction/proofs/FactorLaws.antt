-- Greatest common divisors, by their defining property.
--   HasGcd, has_gcd         two numbers have a greatest common divisor
--   IsGcd-scaled            a common factor of both numbers is one of the greatest divisor
--   dvd-from_coprime        a divisor of a product that is coprime to one factor divides the other
--   coprime-product, coprime-powers   products and powers of coprime numbers
--   coprime-parts           what is left of two numbers without their greatest divisor is coprime
--   same_lowest             equal fractions are equal in lowest terms
--   greatest_common_is      the greatest common divisor is the greatest number that divides both
use Rattle.std.proofs.Common.{◌≡◌, ℕ, zero, suc, ◌+◌, ◌*◌, ◌/◌, ◌%◌, ◌^◌, ◌<◌, ◌≤◌, ◌==◌, ◌&&◌, inl, inr, false, if◌then◌else◌, refl, sym, ap, ◌∙◌, subst, arith}
use Rattle.std.proofs.Math.Nat.{dvd-mul_left, dvd-mul_right, dvd_trans, dvd_antisymm, le_of_dvd, dvd_of_mul-dvd-mul_right, mul-dvd-mul_right, div-mul_cancel, mul_comm, mul_assoc, mul-one, one-mul, mul-add, eq_of_mul-eq-mul_right, mod-eq-zero_of_dvd, dvd_of_mod-eq-zero, div-add-mod, zero-mul, mul-pos, pos_of_dvd_of_pos, one-dvd, mod-lt, mod-zero, pow-suc, pow-zero, mul-mul-mul_comm, add_comm, zero-lt-suc, mul-lt-mul_of_pos_left, add-mul-mod_self_left, mod-eq_of_lt}
use Rattle.std.proofs.lemmas.Nat.Gcd.{IsGcd-from_mod, IsGcd-from_zero, IsGcd-swap, same_from_IsGcd}
use Rattle.std.specs.Int.{IsGcd, ◌∣◌}
use Rattle.std.proofs.lemmas.Bool.{cases_eq}
use Rattle.angle_fraction.specs.Fraction.{greatest_common}

-- ---- Euclid's steps scale
mod-scaled : (k a b : ℕ) → 0 < b → (k * a) % (k * b) ≡ k * (a % b)
mod-scaled zero a b some = simp zero-mul (mod-zero 0)
mod-scaled (suc k) a b some =
    let parts : suc k * a ≡ suc k * (a % b) + suc k * b * (a / b) =
    ap (λ n. suc k * n) (sym (div-add-mod a b)) ∙ mul-add (suc k) (b * (a / b)) (a % b)
    ∙ add_comm (suc k * (b * (a / b))) (suc k * (a % b)) ∙ ap (λ n. suc k * (a % b) + n) (sym (mul_assoc (suc k) b (a / b))) in
    let less : suc k * (a % b) < suc k * b = mul-lt-mul_of_pos_left (mod-lt a some) (zero-lt-suc k) in
    ap (λ n. n % (suc k * b)) parts ∙ add-mul-mod_self_left (suc k * (a % b)) (suc k * b) (a / b) ∙ mod-eq_of_lt less

-- the greatest divisor of two numbers is there, and scales with them
pub record HasGcd (a b : ℕ) : Type 0 where
  pub factor : ℕ
  pub is : IsGcd a b factor
  pub scaled : (k : ℕ) → IsGcd (k * a) (k * b) (k * factor)

pub has_gcd : (n a b : ℕ) → b ≤ n → HasGcd a b
has_gcd n a zero h = record {
  factor = a;
  is = IsGcd-from_zero a 0 refl;
  scaled = λ k. IsGcd-from_zero (k * a) (k * 0) (omega arith);
}
has_gcd zero a (suc b) h = absurd (omega arith)
has_gcd (suc n) a (suc b) h =
    let less : a % suc b < suc b = mod-lt a (zero-lt-suc b) in
    let rest = has_gcd n (suc b) (a % suc b) (omega arith) in record {
      factor = rest.factor;
      is = IsGcd-from_mod a (suc b) rest.factor rest.is;
      scaled = λ k. IsGcd-from_mod (k * a) (k * suc b) (k * rest.factor) (subst (λ n. IsGcd (k * suc b) n (k * rest.factor)) (sym (mod-scaled k a (suc b) (zero-lt-suc b))) (rest.scaled k));
    }

pub IsGcd-scaled : (a b g k : ℕ) → IsGcd a b g → IsGcd (k * a) (k * b) (k * g)
IsGcd-scaled a b g k h =
    let some = has_gcd b a b (omega arith) in
    subst (λ f. IsGcd (k * a) (k * b) (k * f)) (same_from_IsGcd a b some.factor g some.is h) (some.scaled k)

pub dvd-from_coprime : (a b c : ℕ) → IsGcd a b 1 → b ∣ a * c → b ∣ c
dvd-from_coprime a b c h d =
    let both = IsGcd-scaled a b 1 c h in
    subst (λ n. b ∣ n) (mul-one c) (both.2 b (subst (λ n. b ∣ n) (mul_comm a c) d) (dvd-mul_left b c))

-- ---- coprime numbers
pub coprime-product : (a b c : ℕ) → IsGcd a b 1 → IsGcd c b 1 → IsGcd (a * c) b 1
coprime-product a b c h k = (
  one-dvd (a * c),
  one-dvd b,
  λ d p q.
      let apart : IsGcd a d 1 = (one-dvd a, one-dvd d, λ e x y. h.2 e x (dvd_trans e y q)) in
      k.2 d (dvd-from_coprime a d c apart p) q,
)

pub coprime-one : (b : ℕ) → IsGcd 1 b 1
coprime-one b = (one-dvd 1, one-dvd b, λ d p q. p)

coprime-power : (a b n : ℕ) → IsGcd a b 1 → IsGcd (a ^ n) b 1
coprime-power a b zero h = rw pow-zero (coprime-one b)
coprime-power a b (suc n) h = rw pow-suc (coprime-product (a ^ n) b a (coprime-power a b n h) h)

pub coprime-powers : (a b n : ℕ) → IsGcd a b 1 → IsGcd (a ^ n) (b ^ n) 1
coprime-powers a b n h =
    IsGcd-swap (b ^ n) (a ^ n) 1 (coprime-power b (a ^ n) n (IsGcd-swap (a ^ n) b 1 (coprime-power a b n h)))

pub coprime-parts : (a b g : ℕ) → 0 < g → IsGcd a b g → IsGcd (a / g) (b / g) 1
coprime-parts a b g some h = (
  one-dvd (a / g),
  one-dvd (b / g),
  λ d p q.
      let first : d * g ∣ a = subst (λ n. d * g ∣ n) (div-mul_cancel g h.0) (mul-dvd-mul_right d p g) in
      let second : d * g ∣ b = subst (λ n. d * g ∣ n) (div-mul_cancel g h.1) (mul-dvd-mul_right d q g) in
      dvd_of_mul-dvd-mul_right {k = g} d some (subst (λ n. d * g ∣ n) (sym (one-mul g)) (h.2 (d * g) first second)),
)

-- of equal fractions in lowest terms the parts are equal
pub same_coprime : (a b c d : ℕ) → 0 < b → IsGcd a b 1 → IsGcd c d 1 → a * d ≡ c * b → (a ≡ c) × (b ≡ d)
same_coprime a b c d some h k e =
    let first : b ∣ d = dvd-from_coprime a b d h (subst (λ n. b ∣ n) (sym e) (dvd-mul_left b c)) in
    let second : d ∣ b = dvd-from_coprime c d b k (subst (λ n. d ∣ n) e (dvd-mul_left d a)) in
    let same : b ≡ d = dvd_antisymm first second in
    (eq_of_mul-eq-mul_right b some a c (ap (λ n. a * n) same ∙ e), same)

-- equal fractions are equal without their common factors
pub same_lowest : (a b c d g h : ℕ) → 0 < b → 0 < d → IsGcd a b g → IsGcd c d h → a * d ≡ c * b
    → (a / g ≡ c / h) × (b / g ≡ d / h)
same_lowest a b c d g h some other p q e =
    let g_some : 0 < g = pos_of_dvd_of_pos p.1 some in
    let h_some : 0 < h = pos_of_dvd_of_pos q.1 other in
    let less : 0 < b / g = pos_of_dvd_of_pos (subst (λ n. b / g ∣ n) (div-mul_cancel g p.1) (dvd-mul_right (b / g) g)) some in
    let cross : (a / g) * (d / h) * (g * h) ≡ (c / h) * (b / g) * (g * h) =
    mul-mul-mul_comm (a / g) (d / h) g h ∙ ap (λ n. n * (d / h * h)) (div-mul_cancel g p.0) ∙ ap (λ n. a * n) (div-mul_cancel h q.1)
    ∙ e ∙ sym (ap (λ n. c * n) (div-mul_cancel g p.1)) ∙ sym (ap (λ n. n * (b / g * g)) (div-mul_cancel h q.0))
    ∙ sym (mul-mul-mul_comm (c / h) (b / g) h g) ∙ ap (λ n. (c / h) * (b / g) * n) (mul_comm h g) in
    same_coprime (a / g) (b / g) (c / h) (d / h) less (coprime-parts a b g g_some p) (coprime-parts c d h h_some q)
    (eq_of_mul-eq-mul_right (g * h) (mul-pos g_some h_some) _ _ cross)

-- ---- the greatest number that divides both
divides_test : (d a b g : ℕ) → IsGcd a b g → 0 < g → g < d → ((a % d == 0) && (b % d == 0)) ≡ false
divides_test d a b g h some more =
    by_tests (a % d) (b % d) refl refl
  where
    by_tests : (m n : ℕ) → m ≡ a % d → n ≡ b % d → ((m == 0) && (n == 0)) ≡ false
    by_tests zero zero e f = absurd (no_greater (h.2 d (dvd_of_mod-eq-zero d (sym e)) (dvd_of_mod-eq-zero d (sym f))))
      where
        no_greater : d ∣ g → ⊥
        no_greater q = let le : d ≤ g = le_of_dvd some q in omega arith
    by_tests zero (suc n) e f = grind arith
    by_tests (suc m) n e f = grind arith

pub greatest_common_is : (n a b g : ℕ) → IsGcd a b g → 0 < g → g ≤ n → greatest_common n a b ≡ g
unfolding greatest_common
greatest_common_is zero a b g h some le = absurd (omega arith)
greatest_common_is (suc n) a b g h some le = elim (cases_eq g (suc n)) [
  | inl e ↦ found e
  | inr e ↦ rw (divides_test (suc n) a b g h some (omega arith)) (greatest_common_is n a b g h some (omega arith))
]
  where
    found : g ≡ suc n → (if (a % suc n == 0) && (b % suc n == 0) then suc n else greatest_common n a b) ≡ g
    found e =
        let first : a % suc n ≡ 0 = mod-eq-zero_of_dvd (suc n) (subst (λ d. d ∣ a) e h.0) in
        let second : b % suc n ≡ 0 = mod-eq-zero_of_dvd (suc n) (subst (λ d. d ∣ b) e h.1) in
        rw (first, second) (sym e)
