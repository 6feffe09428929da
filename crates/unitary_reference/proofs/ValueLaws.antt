-- How large ring values are, and bits as elements of a list.
--     within-plus, within-minus, within-turn, within-more, within-one_plus, within-one_minus      sizes of parts
--     turn_within, minus_within, one_plus_within, one_minus_within        the same of a value that equals one
--     amplitude-within        each part of an amplitude is at most 4^weight in size
--     bit_of-get_or, with_bit-set, with_bit-past, with_bit-twice, with_bit-own, same_bits-pointwise       bits as elements
--     first_and_rest          a list that is not empty
--     small, entry-U, entry-none      an entry by the first operation
--     put_back, put_back_once         bits that are set and set again
use Rattle.std.proofs.Common.{◌≡◌, ℕ, zero, suc, ◌+◌, ◌^◌, ◌<◌, ◌≤◌, Bool, true, false, cond, not, List, [], ◌∷◌, length, get_or, set, take, drop, ◌-◌, refl, sym, subst, ◌∙◌, ap, arith}
use Rattle.std.proofs.lemmas.Int.{ints}
use Rattle.std.proofs.Math.Nat.{pow-le-pow_right}
use Rattle.std.proofs.Math.Seq.{take-length}
use lib.Pointwise.{pointwise}
use mathlib.Core.Bool.{beq}
use Rattle.unitary_model.specs.declared.Op.{Op}
use Rattle.unitary_model.specs.declared.Op.TheVariants.{U, Cx}
use Rattle.unitary_model.specs.Ring.{Ring, nought, unit, plus, minus, turn1, turn}
use Rattle.unitary_model.specs.Operations.{weight}
use Rattle.unitary_model.specs.Amplitude.{bit_of, with_bit, same_bits, one_plus, one_minus, amplitude}
use Rattle.unitary_reference.specs.Values.{IsWithin}

pub within-plus : (m n : ℕ) (v u : Ring) → IsWithin m v → IsWithin n u → IsWithin (m + n) (plus v u)
unfolding plus
within-plus m n v u h g = record {
  a_low = omega (arith, ints, h.a_low, g.a_low);
  a_high = omega (arith, ints, h.a_high, g.a_high);
  b_low = omega (arith, ints, h.b_low, g.b_low);
  b_high = omega (arith, ints, h.b_high, g.b_high);
  c_low = omega (arith, ints, h.c_low, g.c_low);
  c_high = omega (arith, ints, h.c_high, g.c_high);
  d_low = omega (arith, ints, h.d_low, g.d_low);
  d_high = omega (arith, ints, h.d_high, g.d_high);
}

pub within-minus : (n : ℕ) (v : Ring) → IsWithin n v → IsWithin n (minus v)
unfolding minus
within-minus n v h = record {
  a_low = omega (arith, ints, h.a_high);
  a_high = omega (arith, ints, h.a_low);
  b_low = omega (arith, ints, h.b_high);
  b_high = omega (arith, ints, h.b_low);
  c_low = omega (arith, ints, h.c_high);
  c_high = omega (arith, ints, h.c_low);
  d_low = omega (arith, ints, h.d_high);
  d_high = omega (arith, ints, h.d_low);
}

within-turn1 : (n : ℕ) (v : Ring) → IsWithin n v → IsWithin n (turn1 v)
unfolding turn1
within-turn1 n v h = record {
  a_low = omega (arith, ints, h.d_high);
  a_high = omega (arith, ints, h.d_low);
  b_low = h.a_low;
  b_high = h.a_high;
  c_low = h.b_low;
  c_high = h.b_high;
  d_low = h.c_low;
  d_high = h.c_high;
}

pub within-turn : (n k : ℕ) (v : Ring) → IsWithin n v → IsWithin n (turn k v)
within-turn n zero v h = h
within-turn n (suc k) v h = within-turn1 n (turn k v) (within-turn n k v h)

pub within-more : (m n : ℕ) (v : Ring) → m ≤ n → IsWithin m v → IsWithin n v
within-more m n v le h = record {
  a_low = omega (arith, ints, h.a_low, le);
  a_high = omega (arith, ints, h.a_high, le);
  b_low = omega (arith, ints, h.b_low, le);
  b_high = omega (arith, ints, h.b_high, le);
  c_low = omega (arith, ints, h.c_low, le);
  c_high = omega (arith, ints, h.c_high, le);
  d_low = omega (arith, ints, h.d_low, le);
  d_high = omega (arith, ints, h.d_high, le);
}

pub within-one_plus : (n a : ℕ) (v : Ring) → IsWithin n v → IsWithin (n + n) (one_plus a v)
within-one_plus n a v h = within-plus n n v (turn a v) h (within-turn n a v h)

pub within-one_minus : (n a : ℕ) (v : Ring) → IsWithin n v → IsWithin (n + n) (one_minus a v)
within-one_minus n a v h = within-plus n n v (minus (turn a v)) h (within-minus n (turn a v) (within-turn n a v h))

-- the same of what is equal, as a program's value is
pub turn_within : (m n k : ℕ) (v r : Ring) → m ≤ n → IsWithin m v → r ≡ turn k v → IsWithin n r
turn_within m n k v r le h e = subst (IsWithin n) (sym e) (within-turn n k v (within-more m n v le h))

pub minus_within : (n : ℕ) (v r : Ring) → IsWithin n v → r ≡ minus v → IsWithin n r
minus_within n v r h e = subst (IsWithin n) (sym e) (within-minus n v h)

pub one_plus_within : (m n a : ℕ) (v r : Ring) → m + m ≤ n → IsWithin m v → r ≡ one_plus a v → IsWithin n r
one_plus_within m n a v r le h e = subst (IsWithin n) (sym e) (within-more (m + m) n (one_plus a v) le (within-one_plus m a v h))

pub one_minus_within : (m n a : ℕ) (v r : Ring) → m + m ≤ n → IsWithin m v → r ≡ one_minus a v → IsWithin n r
one_minus_within m n a v r le h e = subst (IsWithin n) (sym e) (within-more (m + m) n (one_minus a v) le (within-one_minus m a v h))

within-unit : IsWithin 1 unit
unfolding unit
within-unit = record { a_low = omega (arith, ints); a_high = omega (arith, ints); b_low = omega (arith, ints); b_high = omega (arith, ints); c_low = omega (arith, ints); c_high = omega (arith, ints); d_low = omega (arith, ints); d_high = omega (arith, ints) }

within-nought : IsWithin 1 nought
unfolding nought
within-nought = record { a_low = omega (arith, ints); a_high = omega (arith, ints); b_low = omega (arith, ints); b_high = omega (arith, ints); c_low = omega (arith, ints); c_high = omega (arith, ints); d_low = omega (arith, ints); d_high = omega (arith, ints) }

pub amplitude-within : (us : List Op) (x y : List Bool) → IsWithin (4 ^ weight us) (amplitude us x y)
amplitude-within [] x y = go (same_bits x y)
  where
    go : (b : Bool) → IsWithin 1 (cond b unit nought)
    go true = within-unit
    go false = within-nought
amplitude-within (Cx c t ∷ us) x y = amplitude-within us (cond (bit_of x c) (with_bit x t (not (bit_of x t))) x) y
amplitude-within (U a b c q ∷ us) x y =
    go (bit_of x q) (amplitude us (with_bit x q false) y) (amplitude us (with_bit x q true) y) (amplitude-within us (with_bit x q false) y) (amplitude-within us (with_bit x q true) y)
  where
    M : ℕ
    M = 4 ^ weight us

    four : (M + M) + (M + M) ≡ 4 ^ suc (weight us)
    four = omega arith

    go : (s : Bool) (v u : Ring) → IsWithin M v → IsWithin M u → IsWithin (4 ^ suc (weight us)) (cond s (plus (minus (turn (c + 2) (one_minus a v))) (turn (b + c) (one_plus a u))) (plus (one_plus a v) (turn (b + 2) (one_minus a u))))
    go true v u h g = subst (λ n. IsWithin n (plus (minus (turn (c + 2) (one_minus a v))) (turn (b + c) (one_plus a u)))) four
        (within-plus (M + M) (M + M) _ _ (within-minus (M + M) _ (within-turn (M + M) (c + 2) _ (within-one_minus M a v h))) (within-turn (M + M) (b + c) _ (within-one_plus M a u g)))
    go false v u h g = subst (λ n. IsWithin n (plus (one_plus a v) (turn (b + 2) (one_minus a u)))) four
        (within-plus (M + M) (M + M) _ _ (within-one_plus M a v h) (within-turn (M + M) (b + 2) _ (within-one_minus M a u g)))

-- ---- bits as elements
pub bit_of-get_or : (x : List Bool) (q : ℕ) → bit_of x q ≡ get_or x q false
bit_of-get_or [] q = refl
bit_of-get_or (b ∷ x) zero = refl
bit_of-get_or (b ∷ x) (suc q) = bit_of-get_or x q

pub with_bit-set : (x : List Bool) (q : ℕ) (b : Bool) → with_bit x q b ≡ set x q b
with_bit-set [] q b = refl
with_bit-set (a ∷ x) zero b = refl
with_bit-set (a ∷ x) (suc q) b = ap (λ r. a ∷ r) (with_bit-set x q b)

pub with_bit-past : (x : List Bool) (q : ℕ) (b : Bool) → length x ≤ q → with_bit x q b ≡ x
with_bit-past [] q b h = refl
with_bit-past (a ∷ x) zero b h = absurd (omega arith)
with_bit-past (a ∷ x) (suc q) b h = ap (λ r. a ∷ r) (with_bit-past x q b (omega arith))

pub with_bit-twice : (x : List Bool) (q : ℕ) (b c : Bool) → with_bit (with_bit x q b) q c ≡ with_bit x q c
with_bit-twice [] q b c = refl
with_bit-twice (a ∷ x) zero b c = refl
with_bit-twice (a ∷ x) (suc q) b c = ap (λ r. a ∷ r) (with_bit-twice x q b c)

pub with_bit-own : (x : List Bool) (q : ℕ) → with_bit x q (bit_of x q) ≡ x
with_bit-own [] q = refl
with_bit-own (a ∷ x) zero = refl
with_bit-own (a ∷ x) (suc q) = ap (λ r. a ∷ r) (with_bit-own x q)

pub same_bits-pointwise : (x y : List Bool) → pointwise beq x y ≡ same_bits x y
same_bits-pointwise [] [] = refl
same_bits-pointwise [] (b ∷ y) = refl
same_bits-pointwise (true ∷ x) [] = refl
same_bits-pointwise (false ∷ x) [] = refl
same_bits-pointwise (true ∷ x) (true ∷ y) = same_bits-pointwise x y
same_bits-pointwise (true ∷ x) (false ∷ y) = refl
same_bits-pointwise (false ∷ x) (true ∷ y) = refl
same_bits-pointwise (false ∷ x) (false ∷ y) = same_bits-pointwise x y

-- ---- the recursion over the list
-- a slice that is not empty, by its first element and the rest
pub first_and_rest : (us : List Op) (u d : Op) → 1 ≤ length us → get_or us 0 d ≡ u → us ≡ u ∷ take (length us - 1) (drop 1 us)
first_and_rest [] u d h e = absurd (omega arith)
first_and_rest (v ∷ us) u d h e = λ i. e i ∷ sym (ap (λ n. take n us) one_less ∙ take-length us) i
  where
    one_less : suc (length us) - 1 ≡ length us
    one_less = omega arith

pub small : (us vs : List Op) (a b c q : ℕ) (x y : List Bool) (v : Ring) → us ≡ U a b c q ∷ vs → weight us ≤ 20 → v ≡ amplitude vs x y → IsWithin (2 ^ 59) v
small us vs a b c q x y v e h f = subst (IsWithin (2 ^ 59)) (sym f) (within-more (4 ^ weight vs) (2 ^ 59) (amplitude vs x y) le (amplitude-within vs x y))
  where
    few : weight vs ≤ 20
    few = let g : weight us ≡ suc (weight vs) = ap weight e in omega (arith, g)

    le : 4 ^ weight vs ≤ 2 ^ 59
    le = let g : 4 ^ weight vs ≤ 4 ^ 20 = pow-le-pow_right (omega arith) few in omega (arith, g)

pub entry-U : (us vs : List Op) (a b c q : ℕ) (x x0 x1 y : List Bool) (v0 v1 r : Ring) (s : Bool) → us ≡ U a b c q ∷ vs → x0 ≡ with_bit x q false → x1 ≡ with_bit x0 q true →
    v0 ≡ amplitude vs x0 y → v1 ≡ amplitude vs x1 y → s ≡ bit_of x q →
    r ≡ cond s (plus (minus (turn (c + 2) (one_minus a v0))) (turn (b + c) (one_plus a v1))) (plus (one_plus a v0) (turn (b + 2) (one_minus a v1))) → r ≡ amplitude us x y
entry-U us vs a b c q x x0 x1 y v0 v1 r s e f0 f1 g0 g1 h k =
    let w0 : v0 ≡ amplitude vs (with_bit x q false) y = g0 ∙ ap (λ z. amplitude vs z y) f0 in
    let w1 : v1 ≡ amplitude vs (with_bit x q true) y = g1 ∙ ap (λ z. amplitude vs z y) (f1 ∙ ap (λ z. with_bit z q true) f0 ∙ with_bit-twice x q false true) in
    k ∙ (λ i. cond (h i) (plus (minus (turn (c + 2) (one_minus a (w0 i)))) (turn (b + c) (one_plus a (w1 i)))) (plus (one_plus a (w0 i)) (turn (b + 2) (one_minus a (w1 i)))))
    ∙ ap (λ z. amplitude z x y) (sym e)

pub put_back : (x x0 x1 x2 : List Bool) (q : ℕ) (s : Bool) → x0 ≡ with_bit x q false → x1 ≡ with_bit x0 q true → x2 ≡ with_bit x1 q s → s ≡ bit_of x q → x2 ≡ x
put_back x x0 x1 x2 q s f0 f1 f2 h = f2 ∙ (λ i. with_bit (f1 i) q (h i)) ∙ with_bit-twice x0 q true (bit_of x q) ∙ ap (λ z. with_bit z q (bit_of x q)) f0 ∙ with_bit-twice x q false (bit_of x q) ∙ with_bit-own x q

pub put_back_once : (x x0 x1 : List Bool) (q : ℕ) (b s : Bool) → x0 ≡ with_bit x q b → x1 ≡ with_bit x0 q s → s ≡ bit_of x q → x1 ≡ x
put_back_once x x0 x1 q b s f0 f1 h = f1 ∙ (λ i. with_bit (f0 i) q (h i)) ∙ with_bit-twice x q b (bit_of x q) ∙ with_bit-own x q

pub entry-none : (us : List Op) (x y : List Bool) (s : Bool) → length us < 1 → s ≡ same_bits x y → cond s unit nought ≡ amplitude us x y
entry-none [] x y s h e = ap (λ b. cond b unit nought) e
entry-none (u ∷ us) x y s h e = absurd (omega arith)
