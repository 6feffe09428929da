-- Products of whole numbers.
--     mul_assoc, mul_swap, mul_add, sub_mul, mul_neg, neg_mul     laws of products
--     minus_one       a product with -1
use Rattle.std.proofs.Common.{◌≡◌, ◌*◌, ℤ, pos, negsuc, neg_ℤ, ◌+ℤ◌, ◌-ℤ◌, ◌*ℤ◌, sym, ◌∙◌, ap, arith}
use Rattle.std.proofs.lemmas.Int.{ints}
use Rattle.std.proofs.Math.IntN.{*ℤ_comm, +ℤ_invl, zero-*ℤ}
use Rattle.unitary_model.proofs.RingLaws.{add_mul}
use borrow.Author.Differences.{up, down, product_is}

pub mul_assoc : (a b c : ℤ) → (a *ℤ b) *ℤ c ≡ a *ℤ (b *ℤ c)
mul_assoc a b c =
    let p = product_is a b in
    let q = product_is b c in
    let p1 = ap (λ n. n * up c) p.0 in
    let p2 = ap (λ n. n * down c) p.0 in
    let p3 = ap (λ n. n * up c) p.1 in
    let p4 = ap (λ n. n * down c) p.1 in
    let q1 = ap (λ n. up a * n) q.0 in
    let q2 = ap (λ n. down a * n) q.0 in
    let q3 = ap (λ n. up a * n) q.1 in
    let q4 = ap (λ n. down a * n) q.1 in
    omega (arith, ints, p1, p2, p3, p4, q1, q2, q3, q4)

pub mul_swap : (a b c : ℤ) → (a *ℤ b) *ℤ c ≡ (a *ℤ c) *ℤ b
mul_swap a b c = mul_assoc a b c ∙ ap (λ z. a *ℤ z) (*ℤ_comm b c) ∙ sym (mul_assoc a c b)

pub mul_add : (a b c : ℤ) → a *ℤ (b +ℤ c) ≡ a *ℤ b +ℤ a *ℤ c
mul_add a b c = *ℤ_comm a (b +ℤ c) ∙ add_mul b c a ∙ (λ i. *ℤ_comm b a i +ℤ *ℤ_comm c a i)

pub neg_mul : (m x : ℤ) → neg_ℤ m *ℤ x ≡ neg_ℤ (m *ℤ x)
neg_mul m x =
    let h : ((neg_ℤ m) *ℤ x) +ℤ (m *ℤ x) ≡ pos 0 = sym (add_mul (neg_ℤ m) m x) ∙ ap (λ z. z *ℤ x) (+ℤ_invl m) ∙ zero-*ℤ x in
    only (neg_ℤ m *ℤ x) (m *ℤ x) h
  where
    only : (p q : ℤ) → p +ℤ q ≡ pos 0 → p ≡ neg_ℤ q
    only p q h = omega (arith, ints)

pub mul_neg : (m x : ℤ) → m *ℤ neg_ℤ x ≡ neg_ℤ (m *ℤ x)
mul_neg m x = *ℤ_comm m (neg_ℤ x) ∙ neg_mul x m ∙ ap neg_ℤ (*ℤ_comm x m)

pub sub_mul : (a b c : ℤ) → (a -ℤ b) *ℤ c ≡ a *ℤ c -ℤ b *ℤ c
sub_mul a b c = add_mul a (neg_ℤ b) c ∙ ap (λ z. a *ℤ c +ℤ z) (neg_mul b c)

one_neg : (s : ℤ) → s *ℤ negsuc 0 ≡ neg_ℤ s
one_neg s = omega (arith, ints)

-- a number with the other sign, times another
pub minus_one : (s n : ℤ) → (s *ℤ negsuc 0) *ℤ n ≡ s *ℤ neg_ℤ n
minus_one s n = ap (λ z. z *ℤ n) (one_neg s) ∙ neg_mul s n ∙ sym (mul_neg s n)
