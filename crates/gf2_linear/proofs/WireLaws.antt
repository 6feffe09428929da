-- Bits of sums, and rows as sums of the rows of one wire.
--   both_zero, both_one, other_zero   a bit of a sum, by the bits of both
--   bit_or_not               a bit that isn't 1 is 0
--   below-append             rows below a bound, and one more
--   top-rest                 a row without its top wire
--   wires-span               a row is spanned where the rows of its wires are
--   highs s d, length-highs  the rows of the wires from s on, d of them, the last first
--   highs-span               they span what has no wire below s
--   free-few                 independent rows of n wires are at most n
use Rattle.std.proofs.Common.{◌≡◌, ℕ, zero, suc, ◌+◌, ◌-◌, ◌*◌, ◌%◌, ◌^◌, ◌<◌, ◌≤◌, List, [], ◌∷◌, ◌++◌, length, get_or, refl, sym, ap, subst, ◌∙◌, arith, inl, inr}
use Rattle.std.specs.Prelude.{bit_xor}
use Rattle.std.specs.Int.{bit_at}
use Rattle.std.specs.Int.Bits.{xor_zero_l}
use Rattle.std.proofs.lemmas.Nat.{xor_block, pow_pos}
use Rattle.std.proofs.Math.Nat.{pow-suc}
use Rattle.std.proofs.lemmas.Nat.Bits.{bit_at_xor, bit_at-lt, bit_at_above, bit_at_cat_low, bit_at-pow_same}
use Rattle.std.proofs.lemmas.Bool.{cases_lt}
use Rattle.gf2_linear.proofs.Xor.{xor_again}
use Rattle.gf2_linear.proofs.Spans.{Span, All_span, Free, Span-same, Span-zero, Span-first, Span-add, steinitz}

-- ---- bits
pub both_zero : (a b w : ℕ) → bit_at a w ≡ 0 → bit_at b w ≡ 0 → bit_at (bit_xor a b) w ≡ 0
both_zero a b w p q = bit_at_xor a b w ∙ ap (λ k. (k + bit_at b w) % 2) p ∙ ap (λ k. (0 + k) % 2) q

pub both_one : (a b w : ℕ) → bit_at a w ≡ 1 → bit_at b w ≡ 1 → bit_at (bit_xor a b) w ≡ 0
both_one a b w p q = bit_at_xor a b w ∙ ap (λ k. (k + bit_at b w) % 2) p ∙ ap (λ k. (1 + k) % 2) q

pub bit_or_not : (v w : ℕ) → (bit_at v w ≡ 1 → ⊥) → bit_at v w ≡ 0
bit_or_not v w n = let l : bit_at v w < 2 = bit_at-lt v w in below_two (bit_at v w) l n
  where
    below_two : (x : ℕ) → x < 2 → (x ≡ 1 → ⊥) → x ≡ 0
    below_two zero l n = refl
    below_two (suc zero) l n = absurd (n refl)
    below_two (suc (suc x)) l n = absurd (omega arith)

-- the other summand of a sum without a wire
pub other_zero : (a b w : ℕ) → bit_at (bit_xor a b) w ≡ 0 → bit_at b w ≡ bit_at a w
other_zero a b w h =
    let e : bit_at (bit_xor a b) w ≡ (bit_at a w + bit_at b w) % 2 = bit_at_xor a b w in
    let p : bit_at a w < 2 = bit_at-lt a w in
    let q : bit_at b w < 2 = bit_at-lt b w in
    same_bits (bit_at a w) (bit_at b w) p q (sym e ∙ h)
  where
    same_bits : (x y : ℕ) → x < 2 → y < 2 → (x + y) % 2 ≡ 0 → y ≡ x
    same_bits x y hx hy e = omega arith

-- ---- rows below a bound
pub below-append : (w : ℕ) (rows : List ℕ) (v : ℕ) → ((k : ℕ) → get_or rows k 0 < 2 ^ w) → v < 2 ^ w → (k : ℕ) → get_or (rows ++ v ∷ []) k 0 < 2 ^ w
below-append w [] v h g zero = g
below-append w [] v h g (suc k) = pow_pos w
below-append w (r ∷ rows) v h g zero = h 0
below-append w (r ∷ rows) v h g (suc k) = below-append w rows v (λ j. h (suc j)) g k

pub top-rest : (n v : ℕ) → 2 ^ n ≤ v → v < 2 ^ suc n → (bit_xor (2 ^ n) v ≡ v - 2 ^ n) × (v - 2 ^ n < 2 ^ n)
top-rest n v g h =
    let e : 2 ^ suc n ≡ 2 ^ n * 2 = pow-suc 2 n in
    let lo : v - 2 ^ n < 2 ^ n = omega (arith, e) in
    let q : 1 * 2 ^ n + 0 ≡ 2 ^ n = omega arith in
    let r : 1 * 2 ^ n + (v - 2 ^ n) ≡ v = omega arith in (
      ap (λ k. bit_xor k v) (sym q) ∙ ap (bit_xor (1 * 2 ^ n + 0)) (sym r) ∙ xor_block n 1 1 0 (v - 2 ^ n) (pow_pos n) lo
          ∙ ap (λ k. 0 * 2 ^ n + k) (xor_zero_l (v - 2 ^ n)) ∙ omega arith,
      lo,
    )

-- ---- rows by their wires
pub wires-span : (m : List ℕ) (n v : ℕ) → v < 2 ^ n → ((w : ℕ) → w < n → bit_at v w ≡ 1 → Span m (2 ^ w)) → Span m v
wires-span m zero v h s = let z : 0 ≡ v = omega arith in Span-same m 0 v z (Span-zero m)
wires-span m (suc n) v h s = elim (cases_lt v (2 ^ n)) [
  | inl l ↦ wires-span m n v l (λ w k. s w (omega arith))
  | inr g ↦
      let t : (bit_xor (2 ^ n) v ≡ v - 2 ^ n) × (v - 2 ^ n < 2 ^ n) = top-rest n v g h in
      let r : 1 * 2 ^ n + (v - 2 ^ n) ≡ v = omega arith in
      let rest : Span m (v - 2 ^ n) = wires-span m n (v - 2 ^ n) t.1
      (λ w k b. s w (omega arith) (ap (λ u. bit_at u w) (sym r) ∙ bit_at_cat_low 1 n (v - 2 ^ n) w k ∙ b)) in
      Span-same m (bit_xor (2 ^ n) (v - 2 ^ n)) v (ap (bit_xor (2 ^ n)) (sym t.0) ∙ xor_again (2 ^ n) v)
      (Span-add m (2 ^ n) (v - 2 ^ n) (s n (omega arith) (top n v t.0 t.1)) rest)
]
  where
    top : (n v : ℕ) → bit_xor (2 ^ n) v ≡ v - 2 ^ n → v - 2 ^ n < 2 ^ n → bit_at v n ≡ 1
    top n v x l =
        ap (λ k. bit_at k n) (sym (xor_again (2 ^ n) v)) ∙ bit_at_xor (2 ^ n) (bit_xor (2 ^ n) v) n
        ∙ ap (λ k. (k + bit_at (bit_xor (2 ^ n) v) n) % 2) (bit_at-pow_same n)
        ∙ ap (λ k. (1 + k) % 2) (ap (λ k. bit_at k n) x ∙ bit_at_above (v - 2 ^ n) n n l (omega arith))

abbrev pub highs : ℕ → ℕ → List ℕ
highs s zero = []
highs s (suc d) = 2 ^ (s + d) ∷ highs s d

pub length-highs : (s d : ℕ) → length (highs s d) ≡ d
length-highs s zero = refl
length-highs s (suc d) = ap suc (length-highs s d)

highs-wire : (s d w : ℕ) → s ≤ w → w < s + d → Span (highs s d) (2 ^ w)
highs-wire s zero w g l = absurd (omega arith)
highs-wire s (suc d) w g l = elim (cases_lt w (s + d)) [
  | inl a ↦ inl (highs-wire s d w g a)
  | inr b ↦ let e : s + d ≡ w = omega arith in Span-same (highs s (suc d)) (2 ^ (s + d)) (2 ^ w) (ap (λ k. 2 ^ k) e) (Span-first (2 ^ (s + d)) (highs s d))
]

pub highs-span : (s d v : ℕ) → v < 2 ^ (s + d) → ((j : ℕ) → j < s → bit_at v j ≡ 0) → Span (highs s d) v
highs-span s d v h z = wires-span (highs s d) (s + d) v h (λ w l b. elim (cases_lt w s) [
  | inl a ↦ absurd (omega (arith, sym b ∙ z w a))
  | inr g ↦ highs-wire s d w g l
])

pub free-few : (n : ℕ) (rows : List ℕ) → ((k : ℕ) → get_or rows k 0 < 2 ^ n) → Free rows → length rows ≤ n
free-few n rows h f =
    let s : length rows ≤ length (highs 0 n) = steinitz (highs 0 n) rows (all rows h) f in
    let e : length (highs 0 n) ≡ n = length-highs 0 n in
    omega arith
  where
    all : (rows : List ℕ) → ((k : ℕ) → get_or rows k 0 < 2 ^ n) → All_span (highs 0 n) rows
    all [] h = tt
    all (r ∷ rows) h =
        (let z : n ≡ 0 + n = omega arith in highs-span 0 n r (subst (λ k. r < 2 ^ k) z (h 0)) (λ j l. absurd (omega arith)), all rows (λ k. h (suc k)))
