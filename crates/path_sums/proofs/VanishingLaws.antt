-- When terms are 0 modulo 8 for all values of the variables.
--     set_free                a set with variable p has any parity, by the value of p
--     moved_sets-free, twice-free  moved_sets terms don't look at p
--     split                   terms with one set more, by the moved_sets terms
--     vanishes-split, split-vanishes    and so when they vanish, both ways
use Rattle.std.proofs.Common.{◌≡◌, ℕ, ◌+◌, ◌*◌, ◌%◌, ◌^◌, Bool, true, false, not, cond, List, [], ◌∷◌, ◌++◌, refl, sym, ◌∙◌, ap, arith}
use Rattle.std.proofs.lemmas.Bool.Decides.{nat_tests}
use Rattle.std.proofs.lemmas.Nat.Bits.{bit_at_xor, bit_at-pow_same, bit_at-lt}
use Rattle.std.specs.Prelude.{nat_eq, bit_xor}
use Rattle.std.specs.Int.{bit_at}
use Rattle.std.specs.Int.Bits.{xor_assoc, xor_self, xor_zero_r}
use Rattle.unitary_model.specs.Acts.{Bits, put}
use Rattle.unitary_model.proofs.Slide.{bit_put}
use Rattle.path_parity.specs.PathSum.{xor}
use Rattle.path_parity.specs.PathFunctions.{parity, phase, Vanishes}
use Rattle.path_sums.specs.Vanishing.{has_variable, moved_sets, twice, with_variable}
use Rattle.path_parity.proofs.PathSumLaws.{odd_over_put}
use Rattle.path_parity.proofs.ParityLaws.{parity-own, parity-xor, phase-append, phase-none}

-- ---- a variable of the set
parity-put : (v : Bits) (p : ℕ) (b : Bool) (m : ℕ) → bit_at m p ≡ 0 → parity (put v p b) m ≡ parity v m
parity-put v p b m h = odd_over_put m p m v b h

set_put : (v : Bits) (p : ℕ) (b : Bool) (s : ℕ) → bit_at s p ≡ 1 → parity (put v p b) s ≡ xor (parity v (bit_xor s (2 ^ p))) b
set_put v p b s h =
    let r : ℕ = bit_xor s (2 ^ p) in
    let back : bit_xor r (2 ^ p) ≡ s = xor_assoc s (2 ^ p) (2 ^ p) ∙ ap (bit_xor s) (xor_self (2 ^ p)) ∙ xor_zero_r s in
    let off : bit_at r p ≡ 0 = bit_at_xor s (2 ^ p) p ∙ (λ i. (h i + bit_at-pow_same p i) % 2) in
    ap (parity (put v p b)) (sym back)
    ∙ parity-xor (put v p b) r (2 ^ p)
    ∙ (λ i. xor (parity-put v p b r off i) ((parity-own (put v p b) p ∙ bit_put v p b) i))

-- values that differ at p alone, where the set has a parity that is asked for
pub record Chosen (v : Bits) (p s : ℕ) (c : Bool) : Type 0 where
  pub value : Bool
  pub parity_is : parity (put v p value) s ≡ c

pub set_free : (v : Bits) (p s : ℕ) (c : Bool) → bit_at s p ≡ 1 → Chosen v p s c
set_free v p s c h = record { value = xor a c; parity_is = set_put v p (xor a c) s h ∙ again a c }
  where
    a : Bool
    a = parity v (bit_xor s (2 ^ p))

    again : (a c : Bool) → xor a (xor a c) ≡ c
    again true true = refl
    again true false = refl
    again false c = refl

-- ---- moved_sets terms don't look at p
one : (m p : ℕ) → nat_eq (bit_at m p) 1 ≡ true → bit_at m p ≡ 1
one m p e = grind (arith, nat_tests)

nought : (m p : ℕ) → nat_eq (bit_at m p) 1 ≡ false → bit_at m p ≡ 0
nought m p e = let lt = bit_at-lt m p in let d = other (bit_at m p) e in omega arith
  where
    other : (k : ℕ) → nat_eq k 1 ≡ false → k ≡ 1 → ⊥
    other k e f = grind (arith, nat_tests)

moved_off : (m s p : ℕ) → bit_at m p ≡ 1 → bit_at s p ≡ 1 → bit_at (bit_xor m s) p ≡ 0
moved_off m s p f h = bit_at_xor m s p ∙ (λ i. (f i + h i) % 2)

pub moved_sets-free : (s p : ℕ) → bit_at s p ≡ 1 → (es : List (ℕ × ℕ)) (v : Bits) (b : Bool) → phase (moved_sets s p es) (put v p b) ≡ phase (moved_sets s p es) v
moved_sets-free s p h [] v b = refl
moved_sets-free s p h (e ∷ es) v b = λ i. cond (go (has_variable p e.0) refl i) e.1 0 + moved_sets-free s p h es v b i
  where
    go : (t : Bool) → has_variable p e.0 ≡ t → parity (put v p b) (cond t (bit_xor e.0 s) e.0) ≡ parity v (cond t (bit_xor e.0 s) e.0)
    go true f = parity-put v p b (bit_xor e.0 s) (moved_off e.0 s p (one e.0 p f) h)
    go false f = parity-put v p b e.0 (nought e.0 p f)

pub twice-free : (s p : ℕ) → bit_at s p ≡ 1 → (es : List (ℕ × ℕ)) (v : Bits) (b : Bool) → phase (twice s p es) (put v p b) ≡ phase (twice s p es) v
twice-free s p h [] v b = refl
twice-free s p h (e ∷ es) v b = go (has_variable p e.0) refl (twice-free s p h es v b)
  where
    go : (t : Bool) → has_variable p e.0 ≡ t → phase (twice s p es) (put v p b) ≡ phase (twice s p es) v →
        phase (cond t ((bit_xor e.0 s, e.1 * 2 % 8) ∷ twice s p es) (twice s p es)) (put v p b) ≡ phase (cond t ((bit_xor e.0 s, e.1 * 2 % 8) ∷ twice s p es) (twice s p es)) v
    go true f r = λ i. cond (parity-put v p b (bit_xor e.0 s) (moved_off e.0 s p (one e.0 p f) h) i) (e.1 * 2 % 8) 0 + r i
    go false f r = r

-- ---- terms by moved_sets ones
pub still : (v : Bits) (s p : ℕ) → parity v s ≡ false → (es : List (ℕ × ℕ)) → phase es v ≡ phase (moved_sets s p es) v
still v s p h [] = refl
still v s p h (e ∷ es) = λ i. cond (go (has_variable p e.0) i) e.1 0 + still v s p h es i
  where
    same : (a : Bool) → a ≡ xor a false
    same true = refl
    same false = refl

    go : (t : Bool) → parity v e.0 ≡ parity v (cond t (bit_xor e.0 s) e.0)
    go true = same (parity v e.0) ∙ (λ i. xor (parity v e.0) (sym h i)) ∙ sym (parity-xor v e.0 s)
    go false = refl

pub turned : (v : Bits) (s p : ℕ) → parity v s ≡ true → (es : List (ℕ × ℕ)) →
    (phase es v + phase (twice s p es) v) % 8 ≡ (phase (moved_sets s p es) v + with_variable p es) % 8
turned v s p h [] = refl
turned v s p h (e ∷ es) = go (has_variable p e.0) (phase es v) (phase (moved_sets s p es) v) (with_variable p es) (turned v s p h es)
  where
    k : ℕ
    k = e.1

    moved_by : parity v (bit_xor e.0 s) ≡ not (parity v e.0)
    moved_by = parity-xor v e.0 s ∙ (λ i. xor (parity v e.0) (h i)) ∙ other (parity v e.0)
      where
        other : (a : Bool) → xor a true ≡ not a
        other true = refl
        other false = refl

    yes : (a : Bool) (x m w t : ℕ) → (x + t) % 8 ≡ (m + w) % 8 → (cond a k 0 + x + (cond (not a) (k * 2 % 8) 0 + t)) % 8 ≡ (cond (not a) k 0 + m + (k + w)) % 8
    yes true x m w t r = omega (arith, r)
    yes false x m w t r = omega (arith, r)

    no : (a : Bool) (x m w t : ℕ) → (x + t) % 8 ≡ (m + w) % 8 → (cond a k 0 + x + t) % 8 ≡ (cond a k 0 + m + (0 + w)) % 8
    no true x m w t r = omega (arith, r)
    no false x m w t r = omega (arith, r)

    go : (b : Bool) (x m w : ℕ) → (x + phase (twice s p es) v) % 8 ≡ (m + w) % 8 →
        (cond (parity v e.0) k 0 + x + phase (cond b ((bit_xor e.0 s, k * 2 % 8) ∷ twice s p es) (twice s p es)) v) % 8
        ≡ (cond (parity v (cond b (bit_xor e.0 s) e.0)) k 0 + m + (cond b k 0 + w)) % 8
    go true x m w r =
        (λ i. (cond (parity v e.0) k 0 + x + (cond (moved_by i) (k * 2 % 8) 0 + phase (twice s p es) v)) % 8)
        ∙ yes (parity v e.0) x m w (phase (twice s p es) v) r
        ∙ (λ i. (cond (sym moved_by i) k 0 + m + (k + w)) % 8)
    go false x m w r = no (parity v e.0) x m w (phase (twice s p es) v) r

-- ---- when terms with one set more vanish
pub record Splits (s k p : ℕ) (es : List (ℕ × ℕ)) : Type 0 where
  pub sum : (k + with_variable p es) % 8 ≡ 0
  pub doubled : Vanishes (twice s p es)
  pub left : Vanishes (moved_sets s p es)

behind : (s k : ℕ) (es : List (ℕ × ℕ)) (v : Bits) (b : Bool) → parity v s ≡ b → phase (es ++ ((s, k) ∷ [])) v ≡ phase es v + (cond b k 0 + 0)
behind s k es v b e = phase-append es ((s, k) ∷ []) v ∙ (λ i. phase es v + (cond (e i) k 0 + 0))

pub split-vanishes : (s k p : ℕ) (es : List (ℕ × ℕ)) → Splits s k p es → Vanishes (es ++ ((s, k) ∷ []))
split-vanishes s k p es h v = go (parity v s) refl
  where
    go : (b : Bool) → parity v s ≡ b → phase (es ++ ((s, k) ∷ [])) v % 8 ≡ 0
    go true e = omega (arith, behind s k es v true e, turned v s p e es, h.sum, h.doubled v, h.left v)
    go false e = omega (arith, behind s k es v false e, still v s p e es, h.left v)

pub vanishes-split : (s k p : ℕ) (es : List (ℕ × ℕ)) → bit_at s p ≡ 1 → Vanishes (es ++ ((s, k) ∷ [])) → Splits s k p es
vanishes-split s k p es h all = record { sum = sum; doubled = doubled; left = left }
  where
    left : Vanishes (moved_sets s p es)
    left v =
        let c : Chosen v p s false = set_free v p s false h in
        let u : Bits = put v p c.value in
        omega (arith, all u, behind s k es u false c.parity_is, still u s p c.parity_is es, moved_sets-free s p h es v c.value)

    both : (v : Bits) → phase (twice s p es) v % 8 ≡ (k + with_variable p es) % 8
    both v =
        let c : Chosen v p s true = set_free v p s true h in
        let u : Bits = put v p c.value in
        omega (arith, all u, behind s k es u true c.parity_is, turned u s p c.parity_is es, left u, twice-free s p h es v c.value)

    sum : (k + with_variable p es) % 8 ≡ 0
    sum = omega (arith, both (λ i. false), phase-none (twice s p es))

    doubled : Vanishes (twice s p es)
    doubled v = omega (arith, both v, sum)

-- ---- terms that add nothing
pub nothing-vanishes : (s k : ℕ) (es : List (ℕ × ℕ)) → k % 8 ≡ 0 → Vanishes es → Vanishes (es ++ ((s, k) ∷ []))
nothing-vanishes s k es z h v = go (parity v s) refl
  where
    go : (b : Bool) → parity v s ≡ b → phase (es ++ ((s, k) ∷ [])) v % 8 ≡ 0
    go true e = omega (arith, behind s k es v true e, h v)
    go false e = omega (arith, behind s k es v false e, h v)

pub vanishes-nothing : (s k : ℕ) (es : List (ℕ × ℕ)) → k % 8 ≡ 0 → Vanishes (es ++ ((s, k) ∷ [])) → Vanishes es
vanishes-nothing s k es z h v = go (parity v s) refl
  where
    go : (b : Bool) → parity v s ≡ b → phase es v % 8 ≡ 0
    go true e = omega (arith, behind s k es v true e, h v)
    go false e = omega (arith, behind s k es v false e, h v)

pub empty-vanishes : (k : ℕ) (es : List (ℕ × ℕ)) → Vanishes es → Vanishes (es ++ ((0, k) ∷ []))
empty-vanishes k es h v = omega (arith, behind 0 k es v false refl, h v)

pub vanishes-empty : (k : ℕ) (es : List (ℕ × ℕ)) → Vanishes (es ++ ((0, k) ∷ [])) → Vanishes es
vanishes-empty k es h v = omega (arith, behind 0 k es v false refl, h v)
