-- Laws of lists that are kept with their inverse: the identity, an exchange of two entries, and that such a
-- list is a placement.
--   identity-more        one more wire
--   AreInverse-identity  the identity is its own inverse
--   IsPlacement-identity, IsPlacement-written
--                        the identity, and the list after two writes, are placements
--   IsPlacement-inverse  a list with an inverse is a placement, and the inverse says where a number stands
--   AreInverse-swap      both lists after an exchange
--   exchanged-written    two writes are the exchange
use Rattle.std.proofs.Common.{◌≡◌, ◌≢◌, ℕ, zero, suc, ◌+◌, ◌<◌, ◌^◌, true, false, cond, List, [], ◌∷◌, ◌++◌, length, map, get_or, set, refl, sym, ap, ◌∙◌, subst, arith, zero-add, ◌⊎◌, inl, inr}
use Rattle.std.proofs.lemmas.List.{map-id, ext_get_or, length-map, get_or-map}
use Rattle.std.proofs.lemmas.Grind.{common_steps}
use Rattle.std.proofs.lemmas.Bool.Decides.{nat_tests, eqb_tells}
use Rattle.std.proofs.lemmas.Bool.{cases_eq}
use Rattle.std.proofs.lemmas.List.FromFn.{length-range_with_len, map-range_with_len_more, get_or-range_with_len}
use Rattle.std.specs.Prelude.{nat_eq, slice_index}
use Rattle.unitary_model.specs.Placement.{exchanged, identity, position_of, IsPlacement}
use Rattle.placement.specs.Inverse.{AreInverse}

pub identity-more : (n : ℕ) → identity (n + 1) ≡ identity n ++ n ∷ []
identity-more n =
    sym (map-id (identity (n + 1))) ∙ map-range_with_len_more (λ i. i) 0 n n (zero-add n) ∙ ap (λ p. p ++ n ∷ []) (map-id (identity n))

-- the identity is its own inverse
pub AreInverse-identity : (n : ℕ) → n < 2 ^ 32 → AreInverse (identity n) (identity n)
AreInverse-identity n h =
    let long : length (identity n) ≡ n = length-range_with_len 0 n in
    let at : (i : ℕ) → i < n → get_or (identity n) i 0 ≡ i = λ i g. get_or-range_with_len 0 n i 0 g ∙ zero-add i in
    record {
      long = refl;
      fits = omega (arith, long);
      within = λ i g. omega (arith, long, at i);
      once = λ i g. let l : i < n = omega (arith, long) in ap (λ k. get_or (identity n) k 0) (at i l) ∙ at i l;
      each = λ i g. omega (arith, long, at i);
      there = λ i g. let l : i < n = omega (arith, long) in ap (λ k. get_or (identity n) k 0) (at i l) ∙ at i l;
    }

found_first : (x : ℕ) (p : List ℕ) (i j : ℕ) → i < suc (length p) → get_or (x ∷ p) i 0 ≡ j
    → ((k : ℕ) → k < suc (length p) → get_or (x ∷ p) k 0 ≡ j → k ≡ i)
    → ((m : ℕ) → m < length p → get_or p m 0 ≡ j → ((k : ℕ) → k < length p → get_or p k 0 ≡ j → k ≡ m) → position_of j p ≡ m)
    → ((nat_eq x j ≡ true) × (x ≡ j)) ⊎ ((nat_eq x j ≡ false) × (x ≢ j)) → cond (nat_eq x j) 0 (suc (position_of j p)) ≡ i
found_first x p i j h e only later (inl here) =
    ap (λ b. cond b 0 (suc (position_of j p))) here.0 ∙ only 0 (omega arith) here.1
found_first x p zero j h e only later (inr other) = absurd (other.1 e)
found_first x p (suc i) j h e only later (inr other) =
    ap (λ b. cond b 0 (suc (position_of j p))) other.0
    ∙ ap suc (later i (omega arith) e (λ k g f. let same : suc k ≡ suc i = only (suc k) (omega arith) f in omega arith))

-- a number that stands at one place of a list is found there
position_of-only : (p : List ℕ) (i j : ℕ) → i < length p → get_or p i 0 ≡ j
    → ((k : ℕ) → k < length p → get_or p k 0 ≡ j → k ≡ i) → position_of j p ≡ i
position_of-only [] i j h e only = absurd (omega arith)
position_of-only (x ∷ p) i j h e only =
    found_first x p i j h e only (λ m. position_of-only p m j) (eqb_tells x j)

-- where a number stands is what the inverse says
pub position_of-inverse : (p q : List ℕ) (j : ℕ) → AreInverse p q → j < length p → position_of j p ≡ slice_index q j
position_of-inverse p q j h g =
    position_of-only p (slice_index q j) j (h.each j g) (h.there j g)
    (λ k l e. sym (h.once k l) ∙ ap (λ m. get_or q m 0) e)

pub IsPlacement-inverse : (p q : List ℕ) → AreInverse p q → IsPlacement (length p) p
IsPlacement-inverse p q h = record {
  long = refl;
  within = h.within;
  once = λ i g. position_of-inverse p q (slice_index p i) h (h.within i g) ∙ h.once i g;
  each = λ j g. subst (λ m. m < length p) (sym (position_of-inverse p q j h g)) (h.each j g);
  there = λ j g. ap (λ m. slice_index p m) (position_of-inverse p q j h g) ∙ h.there j g;
}

-- entries of a list that was written at u and then at v
last_written : (p : List ℕ) (u v x y k : ℕ) → v < length p → k ≡ v → get_or (set (set p u x) v y) k 0 ≡ y
last_written p u v x y k hv e = grind (arith, common_steps)

first_written : (p : List ℕ) (u v x y k : ℕ) → u < length p → k ≢ v → k ≡ u → get_or (set (set p u x) v y) k 0 ≡ x
first_written p u v x y k hu ne e = grind (arith, common_steps)

not_written : (p : List ℕ) (u v x y k : ℕ) → k ≢ v → k ≢ u → get_or (set (set p u x) v y) k 0 ≡ get_or p k 0
not_written p u v x y k nv nu = grind (arith, common_steps)

length_written : (p : List ℕ) (u v x y : ℕ) → length (set (set p u x) v y) ≡ length p
length_written p u v x y = grind (arith, common_steps)

-- One half of the exchange: what the first list says, the second undoes.
record Undoes (p q : List ℕ) (n k : ℕ) : Type 0 where
  within : get_or p k 0 < n
  undone : get_or q (get_or p k 0) 0 ≡ k

undoes_written : (p q : List ℕ) (n a b u v k : ℕ) → length p ≡ n → length q ≡ n → a < n → b < n → u < n → v < n → k < n
    → get_or p u 0 ≡ a → get_or p v 0 ≡ b → (a ≡ b → u ≡ v)
    → ((i : ℕ) → i < n → get_or p i 0 < n) → ((i : ℕ) → i < n → get_or q (get_or p i 0) 0 ≡ i)
    → Undoes (set (set p u b) v a) (set (set q a v) b u) n k
undoes_written p q n a b u v k lp lq ha hb hu hv hk eu ev one within once = go (cases_eq k v) (cases_eq k u) (cases_eq a b)
  where
    P : List ℕ
    P = set (set p u b) v a

    Q : List ℕ
    Q = set (set q a v) b u

    made : (m : ℕ) → get_or P k 0 ≡ m → m < n → get_or Q m 0 ≡ k → Undoes P Q n k
    made m e l f = record { within = subst (λ i. i < n) (sym e) l; undone = ap (λ i. get_or Q i 0) e ∙ f }

    go : (k ≡ v) ⊎ (k ≡ v → ⊥) → (k ≡ u) ⊎ (k ≡ u → ⊥) → (a ≡ b) ⊎ (a ≡ b → ⊥) → Undoes P Q n k
    go (inl kv) ku (inl ab) = made a (last_written p u v b a k (omega arith) kv) ha (last_written q a b v u a (omega arith) ab ∙ one ab ∙ sym kv)
    go (inl kv) ku (inr ab) = made a (last_written p u v b a k (omega arith) kv) ha (first_written q a b v u a (omega arith) ab refl ∙ sym kv)
    go (inr kv) (inl ku) ab = made b (first_written p u v b a k (omega arith) kv ku) hb (last_written q a b v u b (omega arith) refl ∙ sym ku)
    go (inr kv) (inr ku) ab =
        let m : ℕ = get_or p k 0 in
        let not_a : m ≢ a = λ e. ku (sym (once k hk) ∙ ap (λ i. get_or q i 0) (e ∙ sym eu) ∙ once u hu) in
        let not_b : m ≢ b = λ e. kv (sym (once k hk) ∙ ap (λ i. get_or q i 0) (e ∙ sym ev) ∙ once v hv) in
        made m (not_written p u v b a k kv ku) (within k hk) (not_written q a b v u m not_b not_a ∙ once k hk)

-- what stands on a and b exchanged, in both lists
pub AreInverse-swap : (p q : List ℕ) (a b u v : ℕ) → AreInverse p q → a < length p → b < length p
    → u ≡ get_or q a 0 → v ≡ get_or q b 0 → AreInverse (set (set p u b) v a) (set (set q a v) b u)
AreInverse-swap p q a b u v h ha hb eu ev = record {
  long = length_written q a b v u ∙ h.long ∙ sym (length_written p u v b a);
  fits = omega (arith, same, h.fits);
  within = λ i g. let l : i < n = omega (arith, same, g) in omega (arith, same, (front i l).within);
  once = λ i g. let l : i < n = omega (arith, same, g) in (front i l).undone;
  each = λ j g. let l : j < n = omega (arith, same, g) in omega (arith, same, (back j l).within);
  there = λ j g. let l : j < n = omega (arith, same, g) in (back j l).undone;
}
  where
    n : ℕ
    n = length p

    same : length (set (set p u b) v a) ≡ length p
    same = length_written p u v b a

    hu : u < n
    hu = subst (λ m. m < n) (sym eu) (h.each a ha)

    hv : v < n
    hv = subst (λ m. m < n) (sym ev) (h.each b hb)

    pu : get_or p u 0 ≡ a
    pu = ap (λ m. get_or p m 0) eu ∙ h.there a ha

    pv : get_or p v 0 ≡ b
    pv = ap (λ m. get_or p m 0) ev ∙ h.there b hb

    front : (k : ℕ) → k < n → Undoes (set (set p u b) v a) (set (set q a v) b u) n k
    front k l = undoes_written p q n a b u v k refl h.long ha hb hu hv l pu pv (λ e. eu ∙ ap (λ m. get_or q m 0) e ∙ sym ev) h.within h.once

    back : (k : ℕ) → k < n → Undoes (set (set q a v) b u) (set (set p u b) v a) n k
    back k l = undoes_written q p n u v a b k h.long refl hu hv ha hb l (sym eu) (sym ev) (λ e. sym pu ∙ ap (λ m. get_or p m 0) e ∙ pv) h.each h.there

exchanged-first : (a b : ℕ) → exchanged a b a ≡ b
unfolding exchanged
exchanged-first a b = grind (arith, nat_tests)

exchanged-second : (a b : ℕ) → exchanged a b b ≡ a
unfolding exchanged
exchanged-second a b = grind (arith, nat_tests)

exchanged-other : (a b j : ℕ) → (j ≡ a → ⊥) → (j ≡ b → ⊥) → exchanged a b j ≡ j
unfolding exchanged
exchanged-other a b j na nb = grind (arith, nat_tests)

-- the list with the two entries written is the list with a and b exchanged
pub exchanged-written : (p q : List ℕ) (a b u v : ℕ) → AreInverse p q → a < length p → b < length p
    → u ≡ get_or q a 0 → v ≡ get_or q b 0 → set (set p u b) v a ≡ map (exchanged a b) p
exchanged-written p q a b u v h ha hb eu ev =
    ext_get_or 0 _ _ (length_written p u v b a ∙ sym (length-map p (exchanged a b)))
    (λ k l. let g : k < length p = omega (arith, length_written p u v b a, l) in at k g (cases_eq k v) (cases_eq k u) ∙ sym (get_or-map (exchanged a b) p k 0 0 g))
  where
    hu : u < length p
    hu = subst (λ m. m < length p) (sym eu) (h.each a ha)

    hv : v < length p
    hv = subst (λ m. m < length p) (sym ev) (h.each b hb)

    pu : get_or p u 0 ≡ a
    pu = ap (λ m. get_or p m 0) eu ∙ h.there a ha

    pv : get_or p v 0 ≡ b
    pv = ap (λ m. get_or p m 0) ev ∙ h.there b hb

    at : (k : ℕ) → k < length p → (k ≡ v) ⊎ (k ≡ v → ⊥) → (k ≡ u) ⊎ (k ≡ u → ⊥)
        → get_or (set (set p u b) v a) k 0 ≡ exchanged a b (get_or p k 0)
    at k g (inl kv) ku =
        last_written p u v b a k hv kv ∙ sym (exchanged-second a b) ∙ ap (exchanged a b) (sym pv ∙ ap (λ m. get_or p m 0) (sym kv))
    at k g (inr kv) (inl ku) =
        first_written p u v b a k hu kv ku ∙ sym (exchanged-first a b) ∙ ap (exchanged a b) (sym pu ∙ ap (λ m. get_or p m 0) (sym ku))
    at k g (inr kv) (inr ku) =
        not_written p u v b a k kv ku
        ∙ sym (exchanged-other a b (get_or p k 0)
        (λ e. ku (sym (h.once k g) ∙ ap (λ i. get_or q i 0) e ∙ sym eu))
        (λ e. kv (sym (h.once k g) ∙ ap (λ i. get_or q i 0) e ∙ sym ev)))

pub IsPlacement-identity : (n : ℕ) → n < 2 ^ 32 → IsPlacement n (identity n)
IsPlacement-identity n h =
    subst (λ m. IsPlacement m (identity n)) (length-range_with_len 0 n) (IsPlacement-inverse (identity n) (identity n) (AreInverse-identity n h))

pub IsPlacement-written : (p q : List ℕ) (u v x y : ℕ) → AreInverse (set (set p u x) v y) q → IsPlacement (length p) (set (set p u x) v y)
IsPlacement-written p q u v x y h =
    subst (λ m. IsPlacement m (set (set p u x) v y)) (length_written p u v x y) (IsPlacement-inverse (set (set p u x) v y) q h)

pub ruleset identities = (identity-more, AreInverse-identity, IsPlacement-identity)

pub ruleset laws = (position_of-inverse, IsPlacement-inverse, AreInverse-swap, exchanged-written)
