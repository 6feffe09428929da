-- The same H in another order.
--     without v hs            hs without the first H of variable v
--     get-none, get-first     what `set_before` tells of variables
--     over-out, sum-out, ...  one H taken to the front
--     had_sum N z hs          what the H of hs add to the exponent
--     AreSame A B             each variable has the same set in both
--     Alike, shuffled         then sums over them are the same
use Rattle.std.proofs.Common.{◌≡◌, ◌≢◌, ℕ, suc, ◌+◌, Bool, true, false, cond, List, [], ◌∷◌, length, refl, sym, ◌∙◌, ap, arith, Option, None, Some}
use Rattle.std.specs.Prelude.{nat_eq}
use Rattle.std.proofs.lemmas.Bool.Decides.{nat_tests}
use Rattle.unitary_model.specs.Ring.{Ring, plus}
use Rattle.unitary_model.specs.Acts.{Bits, put}
use Rattle.unitary_model.proofs.RingLaws.{plus_assoc, plus_comm}
use Rattle.unitary_model.proofs.Slide.{put_comm}
use Rattle.path_parity.specs.PathSum.{odd_over}
use Rattle.path_parity.specs.NamedSums.{set_before}
use Rattle.path_parity.proofs.NamedLaws.{has, Once, over_list}

abbrev pub without : ℕ → List (ℕ × ℕ) → List (ℕ × ℕ)
without v [] = []
without v (h ∷ hs) = cond (nat_eq h.0 v) hs (h ∷ without v hs)

same : (a b : ℕ) → nat_eq a b ≡ true → a ≡ b
same a b e = grind (arith, nat_tests)

differ : (a b : ℕ) → nat_eq a b ≡ false → a ≢ b
differ a b e = grind (arith, nat_tests)

self : (a : ℕ) → nat_eq a a ≡ true
self a = grind (arith, nat_tests)

flip : (a b : ℕ) → nat_eq a b ≡ nat_eq b a
flip a b = grind (arith, nat_tests)

pub get-none : (v : ℕ) (hs : List (ℕ × ℕ)) → has v hs ≡ false → set_before v hs ≡ None
get-none v [] e = refl
get-none v (h ∷ hs) e = go (nat_eq h.0 v) e (λ f. get-none v hs f)
  where
    go : (b : Bool) → cond b true (has v hs) ≡ false → (has v hs ≡ false → set_before v hs ≡ None) → cond b (Some h.1) (set_before v hs) ≡ None
    go true f r = absurd (cc)
    go false f r = r f

get-first : (h : ℕ × ℕ) (hs : List (ℕ × ℕ)) → set_before h.0 (h ∷ hs) ≡ Some h.1
get-first h hs = ap (λ b. cond b (Some h.1) (set_before h.0 hs)) (self h.0)

-- ---- without one
has-without : (v i : ℕ) (hs : List (ℕ × ℕ)) → has i hs ≡ false → has i (without v hs) ≡ false
has-without v i [] e = refl
has-without v i (h ∷ hs) e = go (nat_eq h.0 i) (nat_eq h.0 v) refl e (λ f. has-without v i hs f)
  where
    go : (b c : Bool) → nat_eq h.0 i ≡ b → cond b true (has i hs) ≡ false → (has i hs ≡ false → has i (without v hs) ≡ false) → has i (cond c hs (h ∷ without v hs)) ≡ false
    go true c g f r = absurd (cc)
    go false true g f r = f
    go false false g f r = ap (λ b. cond b true (has i (without v hs))) g ∙ r f

once-without : (v : ℕ) (hs : List (ℕ × ℕ)) → Once hs → Once (without v hs)
once-without v [] o = tt
once-without v (h ∷ hs) o = go (nat_eq h.0 v) (once-without v hs o.1)
  where
    go : (c : Bool) → Once (without v hs) → Once (cond c hs (h ∷ without v hs))
    go true r = o.1
    go false r = (has-without v h.0 hs o.0, r)

get-without : (v u : ℕ) (hs : List (ℕ × ℕ)) → Once hs → set_before u (without v hs) ≡ cond (nat_eq v u) None (set_before u hs)
get-without v u [] o = none (nat_eq v u)
  where
    none : (b : Bool) → ◌≡◌ {A = Option ℕ} None (cond b None None)
    none true = refl
    none false = refl
get-without v u (h ∷ hs) o = go (nat_eq h.0 v) (nat_eq h.0 u) (nat_eq v u) refl refl refl (get-without v u hs o.1)
  where
    clash : nat_eq h.0 v ≡ true → nat_eq h.0 u ≡ true → nat_eq v u ≡ false → ⊥
    clash a b c = grind (arith, nat_tests)

    clash2 : nat_eq h.0 v ≡ false → nat_eq h.0 u ≡ true → nat_eq v u ≡ true → ⊥
    clash2 a b c = grind (arith, nat_tests)

    clash3 : nat_eq h.0 v ≡ true → nat_eq h.0 u ≡ false → nat_eq v u ≡ true → ⊥
    clash3 a b c = grind (arith, nat_tests)

    gone : nat_eq h.0 u ≡ true → set_before u hs ≡ None
    gone e = get-none u hs (ap (λ j. has j hs) (sym (same h.0 u e)) ∙ o.0)

    go : (a b c : Bool) → nat_eq h.0 v ≡ a → nat_eq h.0 u ≡ b → nat_eq v u ≡ c → set_before u (without v hs) ≡ cond c None (set_before u hs) →
        set_before u (cond a hs (h ∷ without v hs)) ≡ cond c None (cond b (Some h.1) (set_before u hs))
    go true true true e f g r = gone f
    go true true false e f g r = absurd (clash e f g)
    go true false true e f g r = absurd (clash3 e f g)
    go true false false e f g r = refl
    go false true true e f g r = absurd (clash2 e f g)
    go false true false e f g r = ap (λ b. cond b (Some h.1) (set_before u (without v hs))) f
    go false false c e f g r = ap (λ b. cond b (Some h.1) (set_before u (without v hs))) f ∙ r

-- ---- to the front
four : (a b c d : Ring) → plus (plus a b) (plus c d) ≡ plus (plus a c) (plus b d)
four a b c d = plus_assoc a b (plus c d) ∙ ap (plus a) (sym (plus_assoc b c d) ∙ ap (λ z. plus z d) (plus_comm b c) ∙ plus_assoc c b d) ∙ sym (plus_assoc a c (plus b d))

pub over-out : (v S : ℕ) (hs : List (ℕ × ℕ)) (K : Bits → Ring) (u : Bits) → set_before v hs ≡ Some S → over_list hs K u ≡ over_list ((v, S) ∷ without v hs) K u
over-out v S [] K u e = absurd (cc)
over-out v S (h ∷ hs) K u e = go (nat_eq h.0 v) refl e (λ f b. over-out v S hs K (put u h.0 b) f)
  where
    go : (a : Bool) → nat_eq h.0 v ≡ a → cond a (Some h.1) (set_before v hs) ≡ Some S →
        (set_before v hs ≡ Some S → (b : Bool) → over_list hs K (put u h.0 b) ≡ over_list ((v, S) ∷ without v hs) K (put u h.0 b)) →
        over_list (h ∷ hs) K u ≡ over_list ((v, S) ∷ cond a hs (h ∷ without v hs)) K u
    go true f g r = λ i. plus (over_list hs K (put u (same h.0 v f i) false)) (over_list hs K (put u (same h.0 v f i) true))
    go false f g r =
        (λ i. plus (r g false i) (r g true i))
        ∙ four _ _ _ _
        ∙ (λ i. plus (plus (part false false i) (part true false i)) (plus (part false true i) (part true true i)))
      where
        part : (b c : Bool) → over_list (without v hs) K (put (put u h.0 b) v c) ≡ over_list (without v hs) K (put (put u v c) h.0 b)
        part b c = ap (over_list (without v hs) K) (put_comm u h.0 v b c (λ d. differ h.0 v f (sym d)))

abbrev pub had_sum : ℕ → Bits → List (ℕ × ℕ) → ℕ
had_sum N z [] = 0
had_sum N z (h ∷ hs) = cond (odd_over N z h.1) (cond (z h.0) 4 0) 0 + had_sum N z hs

sum-out : (N : ℕ) (z : Bits) (v S : ℕ) (hs : List (ℕ × ℕ)) → set_before v hs ≡ Some S → had_sum N z hs ≡ had_sum N z ((v, S) ∷ without v hs)
sum-out N z v S [] e = absurd (cc)
sum-out N z v S (h ∷ hs) e = go (nat_eq h.0 v) refl e (λ f. sum-out N z v S hs f)
  where
    some : (a b : ℕ) → ◌≡◌ {A = Option ℕ} (Some a) (Some b) → a ≡ b
    some a b f = cc

    swap : (a b c : ℕ) → a + (b + c) ≡ b + (a + c)
    swap a b c = omega arith

    go : (a : Bool) → nat_eq h.0 v ≡ a → cond a (Some h.1) (set_before v hs) ≡ Some S → (set_before v hs ≡ Some S → had_sum N z hs ≡ had_sum N z ((v, S) ∷ without v hs)) →
        had_sum N z (h ∷ hs) ≡ had_sum N z ((v, S) ∷ cond a hs (h ∷ without v hs))
    go true f g r = λ i. cond (odd_over N z (some h.1 S g i)) (cond (z (same h.0 v f i)) 4 0) 0 + had_sum N z hs
    go false f g r = ap (λ m. cond (odd_over N z h.1) (cond (z h.0) 4 0) 0 + m) (r g) ∙ swap (cond (odd_over N z h.1) (cond (z h.0) 4 0) 0) (cond (odd_over N z S) (cond (z v) 4 0) 0) (had_sum N z (without v hs))

length-out : (v S : ℕ) (hs : List (ℕ × ℕ)) → set_before v hs ≡ Some S → length hs ≡ suc (length (without v hs))
length-out v S [] e = absurd (cc)
length-out v S (h ∷ hs) e = go (nat_eq h.0 v) e (λ f. length-out v S hs f)
  where
    go : (a : Bool) → cond a (Some h.1) (set_before v hs) ≡ Some S → (set_before v hs ≡ Some S → length hs ≡ suc (length (without v hs))) → suc (length hs) ≡ suc (length (cond a hs (h ∷ without v hs)))
    go true g r = refl
    go false g r = ap (λ m. suc m) (r g)

-- ---- the same H
pub record Alike (A B : List (ℕ × ℕ)) : Type 0 where
  pub over : (K : Bits → Ring) (u : Bits) → over_list B K u ≡ over_list A K u
  pub sums : (N : ℕ) (z : Bits) → had_sum N z B ≡ had_sum N z A
  pub lengths : length B ≡ length A

there : (h : ℕ × ℕ) (A B : List (ℕ × ℕ)) → ((v : ℕ) → set_before v B ≡ set_before v (h ∷ A)) → set_before h.0 B ≡ Some h.1
there h A B e = e h.0 ∙ get-first h A

left : (h : ℕ × ℕ) (A B : List (ℕ × ℕ)) → Once (h ∷ A) → Once B → ((v : ℕ) → set_before v B ≡ set_before v (h ∷ A)) → (u : ℕ) → set_before u (without h.0 B) ≡ set_before u A
left h A B oa ob e u = get-without h.0 u B ob ∙ go (nat_eq h.0 u) refl
  where
    go : (b : Bool) → nat_eq h.0 u ≡ b → cond b None (set_before u B) ≡ set_before u A
    go true f = sym (get-none u A (ap (λ j. has j A) (sym (same h.0 u f)) ∙ oa.0))
    go false f = e u ∙ ap (λ b. cond b (Some h.1) (set_before u A)) f

one_more : (h : ℕ × ℕ) (A B : List (ℕ × ℕ)) → set_before h.0 B ≡ Some h.1 → Alike A (without h.0 B) → Alike (h ∷ A) B
one_more h A B e rest = record {
  over = λ K u. over-out h.0 h.1 B K u e ∙ (λ i. plus (rest.over K (put u h.0 false) i) (rest.over K (put u h.0 true) i));
  sums = λ N z. sum-out N z h.0 h.1 B e ∙ ap (λ m. cond (odd_over N z h.1) (cond (z h.0) 4 0) 0 + m) (rest.sums N z);
  lengths = length-out h.0 h.1 B e ∙ ap (λ m. suc m) rest.lengths;
}

pub shuffled : (A B : List (ℕ × ℕ)) → Once A → Once B → ((v : ℕ) → set_before v B ≡ set_before v A) → Alike A B
shuffled [] [] oa ob e = record { over = λ K u. refl; sums = λ N z. refl; lengths = refl }
shuffled [] (h ∷ B) oa ob e = absurd (let a = sym (get-first h B) ∙ e h.0 in cc)
shuffled (h ∷ A) B oa ob e = one_more h A B (there h A B e) (shuffled A (without h.0 B) oa.1 (once-without h.0 B ob) (left h A B oa ob e))
