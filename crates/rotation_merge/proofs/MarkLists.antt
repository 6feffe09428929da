-- What merging makes of the P of a circuit, by their marks: label and k.
--     kept_mark m T, kept_marks ms T      the marks that stay, where T is left
--     has s ms                            whether a mark has the set s
--     total-has                           where none has it, its total is 0
--     signed-signed                       a phase that is signed twice is as it was
--     small_left, none_left, still_none   what is left behind a phase
--     total-kept                          the total of a set among the marks that stay is what was left of it
--     once-kept                           the odd marks that stay have different sets
--     is_odd-total                        a set stands an odd number of times among the odd marks where its total is odd
use Rattle.std.proofs.Common.{◌≡◌, ◌≢◌, ℕ, ◌+◌, ◌-◌, ◌%◌, ◌<◌, ◌≤◌, Bool, true, false, cond, not, List, [], ◌∷◌, ◌++◌, refl, sym, ◌∙◌, ap, arith, zero-add, ◌⊎◌, inl, inr}
use Rattle.std.specs.Prelude.{nat_eq}
use Rattle.std.proofs.lemmas.Bool.Decides.{nat_tests}
use Rattle.std.proofs.lemmas.Bool.{cases_lt}
use Rattle.path_parity.specs.PathSum.{PathLabel}
use Rattle.path_parity.specs.OddLabels.{is_odd, IsOnce}
use Rattle.path_parity.proofs.Totals.{total}
use Rattle.path_parity.proofs.MergeSums.{signed, Eighths}
use Rattle.path_parity.proofs.MarkLaws.{odd_marks}
use Rattle.rotation_merge.specs.Merging.{signed_phase, with_total}

abbrev pub kept_mark : (PathLabel × ℕ) → (ℕ → ℕ) → List (PathLabel × ℕ)
kept_mark m T = cond (nat_eq (T (m.0).variables) 0) [] ((m.0, signed_phase m.0 (T (m.0).variables)) ∷ [])

abbrev pub kept_marks : List (PathLabel × ℕ) → (ℕ → ℕ) → List (PathLabel × ℕ)
kept_marks [] T = []
kept_marks (m ∷ ms) T = kept_mark m T ++ kept_marks ms (with_total (m.0).variables 0 T)

abbrev pub has : ℕ → List (PathLabel × ℕ) → Bool
has s [] = false
has s (m ∷ ms) = cond (nat_eq (m.0).variables s) true (has s ms)

-- ---- equal numbers
pub equal : (m s : ℕ) → nat_eq m s ≡ true → m ≡ s
equal m s e = grind (arith, nat_tests)

pub own : (m : ℕ) → nat_eq m m ≡ true
own m = grind (arith, nat_tests)

pub zero_test : (k : ℕ) → k ≡ 0 → nat_eq k 0 ≡ true
zero_test k e = grind (arith, nat_tests)

clash : (m s : ℕ) → nat_eq m s ≡ true → nat_eq s m ≡ false → ⊥
clash m s e f = grind (arith, nat_tests)

turned_round : (m s : ℕ) → nat_eq m s ≡ nat_eq s m
turned_round m s = go (nat_eq m s) (nat_eq s m) refl refl
  where
    go : (a b : Bool) → nat_eq m s ≡ a → nat_eq s m ≡ b → a ≡ b
    go true true e f = refl
    go true false e f = absurd (clash m s e f)
    go false true e f = absurd (clash s m f e)
    go false false e f = refl

apart : (T : ℕ → ℕ) (s v : ℕ) → T s ≡ 0 → nat_eq (T v) 0 ≡ false → nat_eq s v ≡ false
apart T s v h f = go (nat_eq s v) refl
  where
    none : (k : ℕ) → k ≡ 0 → nat_eq k 0 ≡ false → ⊥
    none k e g = grind (arith, nat_tests)

    go : (b : Bool) → nat_eq s v ≡ b → b ≡ false
    go true e = absurd (none (T v) (sym (ap T (equal s v e)) ∙ h) f)
    go false e = refl

-- ---- what is left behind a phase
pub none_left : (b : Bool) (k : ℕ) → k ≡ 0 → ◌≡◌ {A = ℕ} (cond b 0 k) 0
none_left true k e = refl
none_left false k e = e

pub still_none : (b c : Bool) (k : ℕ) → (cond b true c ≡ false → k ≡ 0) → c ≡ false → ◌≡◌ {A = ℕ} (cond b 0 k) 0
still_none true c k h e = refl
still_none false c k h e = h e

pub small_left : (b : Bool) (k : ℕ) → k < 8 → cond b 0 k < 8
small_left true k lt = omega arith
small_left false k lt = lt

pub signed-signed : (l : PathLabel) (k : ℕ) → k < 8 → signed_phase l (signed_phase l k) ≡ k
signed-signed l k lt = go l.bit lt
  where
    go : (b : Bool) → k < 8 → cond b (8 - cond b (8 - k) k) (cond b (8 - k) k) ≡ k
    go true h = omega arith
    go false h = refl

-- ---- totals
pub total-has : (s : ℕ) (ms : List (PathLabel × ℕ)) → has s ms ≡ false → total s (signed ms) ≡ 0
total-has s [] h = refl
total-has s (m ∷ ms) h = go (nat_eq (m.0).variables s) h (total-has s ms)
  where
    go : (b : Bool) → cond b true (has s ms) ≡ false → (has s ms ≡ false → total s (signed ms) ≡ 0) → cond b (cond (m.0).bit (8 - m.1) m.1) 0 + total s (signed ms) ≡ 0
    go true g r = absurd (cc)
    go false g r = zero-add (total s (signed ms)) ∙ r g

pub total-kept : (s : ℕ) (ms : List (PathLabel × ℕ)) (T : ℕ → ℕ) → ((r : ℕ) → T r < 8) → (has s ms ≡ false → T s ≡ 0) → total s (signed (kept_marks ms T)) ≡ T s
total-kept s [] T lt h = sym (h refl)
total-kept s (m ∷ ms) T lt h =
    go (nat_eq (m.0).variables s) (nat_eq (T (m.0).variables) 0) refl refl
    (total-kept s ms (with_total (m.0).variables 0 T) (λ r. small_left (nat_eq (m.0).variables r) (T r) (lt r)) (still_none (nat_eq (m.0).variables s) (has s ms) (T s) h))
  where
    nothing_more : (a b c : ℕ) → a ≡ b → b ≡ c → a + 0 ≡ c
    nothing_more a b c e f = omega arith

    go : (b z : Bool) → nat_eq (m.0).variables s ≡ b → nat_eq (T (m.0).variables) 0 ≡ z →
        total s (signed (kept_marks ms (with_total (m.0).variables 0 T))) ≡ cond (nat_eq (m.0).variables s) 0 (T s) →
        total s (signed (cond z [] ((m.0, signed_phase m.0 (T (m.0).variables)) ∷ []) ++ kept_marks ms (with_total (m.0).variables 0 T))) ≡ T s
    go true true e f r = r ∙ (λ i. cond (e i) 0 (T s)) ∙ sym (equal (T (m.0).variables) 0 f) ∙ ap T (equal (m.0).variables s e)
    go true false e f r =
        (λ i. cond (e i) (signed_phase m.0 (signed_phase m.0 (T (m.0).variables))) 0 + (r ∙ (λ j. cond (e j) 0 (T s))) i)
        ∙ nothing_more (signed_phase m.0 (signed_phase m.0 (T (m.0).variables))) (T (m.0).variables) (T s) (signed-signed m.0 (T (m.0).variables) (lt (m.0).variables)) (ap T (equal (m.0).variables s e))
    go false true e f r = r ∙ (λ i. cond (e i) 0 (T s))
    go false false e f r =
        (λ i. cond (e i) (signed_phase m.0 (signed_phase m.0 (T (m.0).variables))) 0 + (r ∙ (λ j. cond (e j) 0 (T s))) i)
        ∙ zero-add (T s)

-- ---- different sets
is_odd-kept : (s : ℕ) (ms : List (PathLabel × ℕ)) (T : ℕ → ℕ) → T s ≡ 0 → is_odd s (odd_marks (kept_marks ms T)) ≡ false
is_odd-kept s [] T h = refl
is_odd-kept s (m ∷ ms) T h = go (nat_eq (T (m.0).variables) 0) refl (is_odd-kept s ms (with_total (m.0).variables 0 T) (none_left (nat_eq (m.0).variables s) (T s) h))
  where
    more : (rest : List ℕ) (o : Bool) → nat_eq s (m.0).variables ≡ false → is_odd s rest ≡ false → is_odd s (cond o ((m.0).variables ∷ rest) rest) ≡ false
    more rest true e r = (λ i. cond (e i) (not (is_odd s rest)) (is_odd s rest)) ∙ r
    more rest false e r = r

    go : (z : Bool) → nat_eq (T (m.0).variables) 0 ≡ z → is_odd s (odd_marks (kept_marks ms (with_total (m.0).variables 0 T))) ≡ false →
        is_odd s (odd_marks (cond z [] ((m.0, signed_phase m.0 (T (m.0).variables)) ∷ []) ++ kept_marks ms (with_total (m.0).variables 0 T))) ≡ false
    go true f r = r
    go false f r = more (odd_marks (kept_marks ms (with_total (m.0).variables 0 T))) (nat_eq (signed_phase m.0 (T (m.0).variables) % 2) 1) (apart T s (m.0).variables h f) r

pub once-kept : (ms : List (PathLabel × ℕ)) (T : ℕ → ℕ) → IsOnce (odd_marks (kept_marks ms T))
once-kept [] T = tt
once-kept (m ∷ ms) T = go (nat_eq (T (m.0).variables) 0) (once-kept ms (with_total (m.0).variables 0 T))
  where
    gone : with_total (m.0).variables 0 T (m.0).variables ≡ 0
    gone = λ i. cond (own (m.0).variables i) 0 (T (m.0).variables)

    more : (o : Bool) → IsOnce (odd_marks (kept_marks ms (with_total (m.0).variables 0 T))) →
        IsOnce (cond o ((m.0).variables ∷ odd_marks (kept_marks ms (with_total (m.0).variables 0 T))) (odd_marks (kept_marks ms (with_total (m.0).variables 0 T))))
    more true r = (is_odd-kept (m.0).variables ms (with_total (m.0).variables 0 T) gone, r)
    more false r = r

    go : (z : Bool) → IsOnce (odd_marks (kept_marks ms (with_total (m.0).variables 0 T))) →
        IsOnce (odd_marks (cond z [] ((m.0, signed_phase m.0 (T (m.0).variables)) ∷ []) ++ kept_marks ms (with_total (m.0).variables 0 T)))
    go true r = r
    go false r = more (nat_eq (signed_phase m.0 (T (m.0).variables) % 2) 1) r

-- ---- odd totals
odd_signed : (l : PathLabel) (k : ℕ) → k < 8 → k % 2 ≡ 1 → signed_phase l k % 2 ≡ 1
odd_signed l k lt e = go l.bit
  where
    go : (b : Bool) → cond b (8 - k) k % 2 ≡ 1
    go true = omega arith
    go false = e

even_signed : (l : PathLabel) (k : ℕ) → k < 8 → k % 2 ≢ 1 → signed_phase l k % 2 ≡ 0
even_signed l k lt e = go l.bit
  where
    go : (b : Bool) → cond b (8 - k) k % 2 ≡ 0
    go true = omega arith
    go false = omega arith

even_or_odd : (r : ℕ) → (r % 2 ≡ 0) ⊎ (r % 2 ≡ 1)
even_or_odd r = go (cases_lt (r % 2) 1)
  where
    go : (r % 2 < 1) ⊎ (1 ≤ r % 2) → (r % 2 ≡ 0) ⊎ (r % 2 ≡ 1)
    go (inl lt) = inl (omega arith)
    go (inr le) = inr (omega arith)

with_odd : (c r : ℕ) → c % 2 ≡ 1 → not (nat_eq (r % 2) 1) ≡ nat_eq ((c + r) % 2) 1
with_odd c r e = go (even_or_odd r)
  where
    after_even : r % 2 ≡ 0 → (c + r) % 2 ≡ 1
    after_even f = omega arith

    after_odd : r % 2 ≡ 1 → (c + r) % 2 ≡ 0
    after_odd f = omega arith

    go : (r % 2 ≡ 0) ⊎ (r % 2 ≡ 1) → not (nat_eq (r % 2) 1) ≡ nat_eq ((c + r) % 2) 1
    go (inl f) = (λ i. not (nat_eq (f i) 1)) ∙ sym (λ i. nat_eq (after_even f i) 1)
    go (inr f) = (λ i. not (nat_eq (f i) 1)) ∙ sym (λ i. nat_eq (after_odd f i) 1)

with_even : (c r : ℕ) → c % 2 ≡ 0 → nat_eq (r % 2) 1 ≡ nat_eq ((c + r) % 2) 1
with_even c r e = ap (λ k. nat_eq k 1) same
  where
    same : r % 2 ≡ (c + r) % 2
    same = omega arith

pub is_odd-total : (s : ℕ) (ms : List (PathLabel × ℕ)) → Eighths ms → is_odd s (odd_marks ms) ≡ nat_eq (total s (signed ms) % 2) 1
is_odd-total s [] h = refl
is_odd-total s (m ∷ ms) h =
    go (nat_eq (m.1 % 2) 1) (nat_eq (m.0).variables s) refl refl (total s (signed ms)) (odd_marks ms) (is_odd-total s ms h.1)
  where
    not_one : (k : ℕ) → nat_eq k 1 ≡ false → k ≢ 1
    not_one k f = grind (arith, nat_tests)

    here : (b : Bool) (r : ℕ) (rest : List ℕ) → nat_eq (m.0).variables s ≡ b → is_odd s rest ≡ nat_eq (r % 2) 1 → is_odd s ((m.0).variables ∷ rest) ≡ cond b (not (nat_eq (r % 2) 1)) (nat_eq (r % 2) 1)
    here b r rest f h = λ i. cond ((turned_round s (m.0).variables ∙ f) i) (not (h i)) (h i)

    go : (o b : Bool) → nat_eq (m.1 % 2) 1 ≡ o → nat_eq (m.0).variables s ≡ b → (r : ℕ) (rest : List ℕ) → is_odd s rest ≡ nat_eq (r % 2) 1 →
        is_odd s (cond o ((m.0).variables ∷ rest) rest) ≡ nat_eq ((cond b (signed_phase m.0 m.1) 0 + r) % 2) 1
    go true true e f r rest g = here true r rest f g ∙ with_odd (signed_phase m.0 m.1) r (odd_signed m.0 m.1 h.0 (equal (m.1 % 2) 1 e))
    go true false e f r rest g = here false r rest f g ∙ with_even 0 r refl
    go false true e f r rest g = g ∙ with_even (signed_phase m.0 m.1) r (even_signed m.0 m.1 h.0 (not_one (m.1 % 2) e))
    go false false e f r rest g = g ∙ with_even 0 r refl
