-- Lists of places.
--   Has-cases, Has-at, at-Has            a place is one of them or not; where it stands
--   Has-put_in, put_in-has, taken_out-has    what is there after a place came in or went out
--   IsAscending-put_in, -taken_out       they stay ascending
--   IsStrictlyIncreasing-ascending       in std's word
--   put_in-behind                        a place behind all others
--   IsHalfPut                            put_in as a loop makes it
--   length-put_in, length-taken_out      one more, one fewer
--   count_of-one, count_of-none          a place stands in an ascending list once or not at all
use Rattle.std.proofs.Common.{◌≡◌, ℕ, zero, suc, ◌+◌, ◌<◌, ◌≤◌, Bool, true, false, cond, List, [], ◌∷◌, ◌++◌, length, drop, get_or, refl, sym, ap, subst, ◌∙◌, arith, ◌⊎◌, inl, inr}
use Rattle.std.specs.Prelude.{nat_eq, nat_lt}
use Rattle.std.specs.List.Sorted.{IsStrictlyIncreasing}
use Rattle.std.proofs.lemmas.Bool.{eqb-false, eq-eqb, ne_eqb, cases_eq, le-ltb, ltb-true, ltb-false}
use Rattle.matroid_partition.specs.Places.{Has, IsAscending, put_in, taken_out}
use Rattle.gf2_linear.specs.Wide.{count_of}

pub Has-cases : (ps : List ℕ) (y : ℕ) → Has ps y ⊎ (Has ps y → ⊥)
Has-cases [] y = inr (λ h. h)
Has-cases (p ∷ ps) y = elim (cases_eq p y) [
  | inl e ↦ inl (inl e)
  | inr n ↦ elim (Has-cases ps y) [ inl h ↦ inl (inr h) | inr m ↦ inr (λ k. elim k [ inl e ↦ n e | inr h ↦ m h ]) ]
]

pub Has-at : (ps : List ℕ) (y : ℕ) → Has ps y → (j : ℕ) × (j < length ps) × (get_or ps j 0 ≡ y)
Has-at [] y h = absurd h
Has-at (p ∷ ps) y h = elim h [
  | inl e ↦ (0, omega arith, e)
  | inr t ↦ let r : (j : ℕ) × (j < length ps) × (get_or ps j 0 ≡ y) = Has-at ps y t in let l : r.0 < length ps = r.1 in (suc r.0, omega arith, r.2)
]

pub at-Has : (ps : List ℕ) (j d : ℕ) → j < length ps → Has ps (get_or ps j d)
at-Has [] j d l = absurd (omega arith)
at-Has (p ∷ ps) zero d l = inl refl
at-Has (p ∷ ps) (suc j) d l = inr (at-Has ps j d (omega arith))

-- ---- one place in
pub Has-put_in : (x y : ℕ) (ps : List ℕ) → Has (put_in x ps) y → (x ≡ y) ⊎ Has ps y
Has-put_in x y [] h = h
Has-put_in x y (p ∷ ps) h = go (nat_lt x p) h (Has-put_in x y ps)
  where
    go : (b : Bool) → Has (cond b (x ∷ (p ∷ ps)) (p ∷ put_in x ps)) y → (Has (put_in x ps) y → (x ≡ y) ⊎ Has ps y) → (x ≡ y) ⊎ ((p ≡ y) ⊎ Has ps y)
    go true h k = h
    go false h k = elim h [ inl e ↦ inr (inl e) | inr t ↦ elim (k t) [ inl e ↦ inl e | inr u ↦ inr (inr u) ] ]

pub put_in-has : (x : ℕ) (ps : List ℕ) → Has (put_in x ps) x
put_in-has x [] = inl refl
put_in-has x (p ∷ ps) = go (nat_lt x p) (put_in-has x ps)
  where
    go : (b : Bool) → Has (put_in x ps) x → Has (cond b (x ∷ (p ∷ ps)) (p ∷ put_in x ps)) x
    go true h = inl refl
    go false h = inr h

pub IsAscending-put_in : (x : ℕ) (ps : List ℕ) → IsAscending ps → (Has ps x → ⊥) → IsAscending (put_in x ps)
IsAscending-put_in x [] a n = ((λ y h. absurd h), tt)
IsAscending-put_in x (p ∷ ps) a n = go (nat_lt x p) refl (IsAscending-put_in x ps a.1 (λ h. n (inr h)))
  where
    go : (b : Bool) → nat_lt x p ≡ b → IsAscending (put_in x ps) → IsAscending (cond b (x ∷ (p ∷ ps)) (p ∷ put_in x ps))
    go true e k =
        let l : x < p = ltb-true x p e in
        ((λ y h. elim h [ inl q ↦ subst (λ m. x < m) q l | inr t ↦ let m : p < y = a.0 y t in omega arith ]), a)
    go false e k =
        let l : p ≤ x = ltb-false x p e in (
          (λ y h. elim (Has-put_in x y ps h) [
            | inl q ↦ elim (cases_eq p x) [ inl r ↦ absurd (n (inl r)) | inr d ↦ subst (λ m. p < m) q (omega arith) ]
            | inr t ↦ a.0 y t
          ]),
          k,
        )

pub length-put_in : (x : ℕ) (ps : List ℕ) → length (put_in x ps) ≡ length ps + 1
length-put_in x [] = refl
length-put_in x (p ∷ ps) = go (nat_lt x p) (length-put_in x ps)
  where
    go : (b : Bool) → length (put_in x ps) ≡ length ps + 1 → length (cond b (x ∷ (p ∷ ps)) (p ∷ put_in x ps)) ≡ suc (length ps) + 1
    go true k = omega arith
    go false k = omega (arith, k)

pub put_in-behind : (x : ℕ) (ps : List ℕ) → ((i : ℕ) → Has ps i → i < x) → put_in x ps ≡ ps ++ x ∷ []
put_in-behind x [] h = refl
put_in-behind x (p ∷ ps) h =
    let l : p < x = h p (inl refl) in
    ap (λ b. cond b (x ∷ (p ∷ ps)) (p ∷ put_in x ps)) (le-ltb x p (omega arith)) ∙ ap (λ k. p ∷ k) (put_in-behind x ps (λ i t. h i (inr t)))

-- put_in, half way through the list: what is written so far, and whether x is in
abbrev pub IsHalfPut : ℕ → List ℕ → ℕ → List ℕ → Bool → Type 0
IsHalfPut x ps i more b = put_in x ps ≡ more ++ cond b (drop i ps) (put_in x (drop i ps))

-- ---- one place out
pub taken_out-has : (x y : ℕ) (ps : List ℕ) → Has (taken_out x ps) y → Has ps y × (y ≡ x → ⊥)
taken_out-has x y [] h = absurd h
taken_out-has x y (p ∷ ps) h = go (nat_eq p x) refl h (taken_out-has x y ps)
  where
    go : (b : Bool) → nat_eq p x ≡ b → Has (cond b (taken_out x ps) (p ∷ taken_out x ps)) y → (Has (taken_out x ps) y → Has ps y × (y ≡ x → ⊥))
        → ((p ≡ y) ⊎ Has ps y) × (y ≡ x → ⊥)
    go true e h k = let r : Has ps y × (y ≡ x → ⊥) = k h in (inr r.0, r.1)
    go false e h k = elim h [
      | inl q ↦ (inl q, (λ z. eqb-false p x e (q ∙ z)))
      | inr t ↦ let r : Has ps y × (y ≡ x → ⊥) = k t in (inr r.0, r.1)
    ]

pub IsAscending-taken_out : (x : ℕ) (ps : List ℕ) → IsAscending ps → IsAscending (taken_out x ps)
IsAscending-taken_out x [] a = tt
IsAscending-taken_out x (p ∷ ps) a = go (nat_eq p x) (IsAscending-taken_out x ps a.1)
  where
    go : (b : Bool) → IsAscending (taken_out x ps) → IsAscending (cond b (taken_out x ps) (p ∷ taken_out x ps))
    go true k = k
    go false k = ((λ y h. a.0 y (taken_out-has x y ps h).0), k)

taken_out-none : (x : ℕ) (ps : List ℕ) → (Has ps x → ⊥) → taken_out x ps ≡ ps
taken_out-none x [] n = refl
taken_out-none x (p ∷ ps) n =
    ap (λ b. cond b (taken_out x ps) (p ∷ taken_out x ps)) (ne_eqb p x (λ e. n (inl e))) ∙ ap (λ k. p ∷ k) (taken_out-none x ps (λ h. n (inr h)))

pub length-taken_out : (x : ℕ) (ps : List ℕ) → IsAscending ps → Has ps x → length (taken_out x ps) + 1 ≡ length ps
length-taken_out x [] a h = absurd h
length-taken_out x (p ∷ ps) a h = go (cases_eq p x) h (length-taken_out x ps a.1)
  where
    go : (p ≡ x) ⊎ (p ≡ x → ⊥) → (p ≡ x) ⊎ Has ps x → (Has ps x → length (taken_out x ps) + 1 ≡ length ps)
        → length (cond (nat_eq p x) (taken_out x ps) (p ∷ taken_out x ps)) + 1 ≡ suc (length ps)
    go (inl e) h k =
        let s : length (taken_out x ps) ≡ length ps = ap length (taken_out-none x ps (λ t. let l : p < x = a.0 x t in absurd (omega arith))) in
        let q : length (cond (nat_eq p x) (taken_out x ps) (p ∷ taken_out x ps)) ≡ length (taken_out x ps) =
        ap (λ b. length (cond b (taken_out x ps) (p ∷ taken_out x ps))) (eq-eqb p x e) in
        omega arith
    go (inr n) h k =
        let t : Has ps x = elim h [ inl e ↦ absurd (n e) | inr u ↦ u ] in
        let s : length (taken_out x ps) + 1 ≡ length ps = k t in
        let q : length (cond (nat_eq p x) (taken_out x ps) (p ∷ taken_out x ps)) ≡ suc (length (taken_out x ps)) =
        ap (λ b. length (cond b (taken_out x ps) (p ∷ taken_out x ps))) (ne_eqb p x n) in
        omega arith

-- ---- ascending lists
pub IsStrictlyIncreasing-ascending : (ps : List ℕ) → IsAscending ps → IsStrictlyIncreasing ps
IsStrictlyIncreasing-ascending [] a k l = absurd (omega arith)
IsStrictlyIncreasing-ascending (p ∷ []) a k l = absurd (omega arith)
IsStrictlyIncreasing-ascending (p ∷ (q ∷ ps)) a zero l = a.0 q (inl refl)
IsStrictlyIncreasing-ascending (p ∷ (q ∷ ps)) a (suc k) l =
    let h : get_or (q ∷ ps) k 0 < get_or (q ∷ ps) (k + 1) 0 = IsStrictlyIncreasing-ascending (q ∷ ps) a.1 k (omega arith) in
    let e : suc k + 1 ≡ suc (k + 1) = omega arith in
    subst (λ m. get_or (q ∷ ps) k 0 < get_or (p ∷ (q ∷ ps)) m 0) (sym e) h

pub count_of-none : (i : ℕ) (ps : List ℕ) → (Has ps i → ⊥) → count_of i ps ≡ 0
count_of-none i [] n = refl
count_of-none i (p ∷ ps) n =
    ap (λ b. cond b 1 0 + count_of i ps) (ne_eqb p i (λ e. n (inl e))) ∙ ap (λ k. 0 + k) (count_of-none i ps (λ h. n (inr h)))

pub count_of-one : (i : ℕ) (ps : List ℕ) → IsAscending ps → Has ps i → count_of i ps ≡ 1
count_of-one i [] a h = absurd h
count_of-one i (p ∷ ps) a h = elim (cases_eq p i) [
  | inl e ↦ ap (λ b. cond b 1 0 + count_of i ps) (eq-eqb p i e)
      ∙ ap (λ k. 1 + k) (count_of-none i ps (λ t. let l : p < i = a.0 i t in absurd (omega arith)))
  | inr n ↦ let t : Has ps i = elim h [ inl e ↦ absurd (n e) | inr u ↦ u ] in
      ap (λ b. cond b 1 0 + count_of i ps) (ne_eqb p i n) ∙ ap (λ k. 0 + k) (count_of-one i ps a.1 t)
]
