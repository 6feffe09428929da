-- Completion of independent rows.
--   pivots-within            the pivot of a row is one of its wires, so it is below a bound on all of them
--   length-pivots, pivot-read     the entries of a basis have the pivots of its rows
--   Placed rows pivots wires i m   the first i rows stand on their pivots, and every other wire has itself alone
--   placed-none, placed-more       no row; one row more
--   placed-independent       with all rows placed, the matrix spans every row, so it is independent
--   placed-each, IsCompletion-placed   it has each row, and is the completion
--   all-below                a bound on all rows, place by place
use Rattle.std.proofs.Common.{◌≡◌, ℕ, zero, suc, ◌+◌, ◌^◌, ◌<◌, ◌≤◌, true, List, [], ◌∷◌, length, take, get_or, set, refl, sym, ap, subst, ◌∙◌, arith, ◌⊎◌, inl, inr}
use Rattle.std.specs.Prelude.{bit_xor, All, Contains}
use Rattle.std.specs.Int.{bit_at}
use Rattle.std.proofs.lemmas.Nat.{xor_lt, pow_pos}
use Rattle.std.proofs.lemmas.Nat.Bits.{bit_at_above}
use Rattle.std.proofs.lemmas.Bool.{cases_eq, cases_lt}
use Rattle.std.proofs.lemmas.List.{length-set, length-take-le, get_or-take}
use Rattle.std.proofs.lemmas.List.Elements.{All-get_or, All-from_get_or, Contains-get_or}
use Rattle.gf2_linear.specs.declared.bases.Entry.{Entry}
use Rattle.gf2_linear.specs.Rows.{is_independent}
use Rattle.gf2_linear.specs.Matrices.{identity_rows}
use Rattle.gf2_linear.specs.Bases.{pivots_of}
use Rattle.gf2_linear.specs.Completions.{IsPivot, ArePivots, IsCompletion}
use Rattle.gf2_linear.proofs.Xor.{xor_again}
use Rattle.gf2_linear.proofs.Spans.{Span, All_span, Span-same, Span-add, Span-within}
use Rattle.gf2_linear.proofs.Ranks.{is_sum-spanned, Free-independent}
use Rattle.gf2_linear.proofs.WordLaws.{set_there, set_elsewhere}
use Rattle.gf2_linear.proofs.WireLaws.{both_zero, both_one, bit_or_not, wires-span}
use Rattle.gf2_linear.proofs.MatrixLaws.{length-identity, below-identity}
use Rattle.gf2_linear.proofs.PivotLaws.{pivots-differ}
use Rattle.gf2_linear.proofs.RunLaws.{Span-at, All_span-from, bounded-span, free-count, free-identity, get-identity}

-- ---- pivots
below-taken : (rows : List ℕ) (n j : ℕ) → ((k : ℕ) → get_or rows k 0 < 2 ^ n) → (k : ℕ) → get_or (take j rows) k 0 < 2 ^ n
below-taken [] n zero b k = pow_pos n
below-taken [] n (suc j) b k = pow_pos n
below-taken (r ∷ rows) n zero b k = pow_pos n
below-taken (r ∷ rows) n (suc j) b zero = b 0
below-taken (r ∷ rows) n (suc j) b (suc k) = below-taken rows n j (λ i. b (suc i)) k

left-below : (rows pivots : List ℕ) (n j : ℕ) → ((k : ℕ) → get_or rows k 0 < 2 ^ n)
    → (h : IsPivot (take j rows) (take j pivots) (get_or rows j 0) (get_or pivots j 0)) → h.left < 2 ^ n
left-below rows pivots n j b h =
    subst (λ k. k < 2 ^ n) (xor_again (get_or rows j 0) h.left)
    (xor_lt n (get_or rows j 0) (bit_xor (get_or rows j 0) h.left) (b j)
    (bounded-span (take j rows) n (bit_xor (get_or rows j 0) h.left) (below-taken rows n j b)
    (is_sum-spanned (take j rows) (bit_xor (get_or rows j 0) h.left) h.sum)))

pub pivots-within : (rows pivots : List ℕ) (n : ℕ) → ArePivots rows pivots → ((k : ℕ) → get_or rows k 0 < 2 ^ n)
    → (j : ℕ) → j < length rows → get_or pivots j 0 < n
pivots-within rows pivots n h b j l = elim (cases_lt (get_or pivots j 0) n) [
  | inl s ↦ s
  | inr g ↦
      let p : IsPivot (take j rows) (take j pivots) (get_or rows j 0) (get_or pivots j 0) = h.each j l in
      let lo : p.left < 2 ^ n = left-below rows pivots n j b p in
      absurd (omega (arith, p.least.there, bit_at_above p.left n (get_or pivots j 0) lo g))
]

pub length-pivots : (rows : List ℕ) (entries : List Entry) → ArePivots rows (pivots_of entries) → length entries ≡ length rows
length-pivots rows entries h = sym (go entries) ∙ h.long
  where
    go : (entries : List Entry) → length (pivots_of entries) ≡ length entries
    go [] = refl
    go (e ∷ entries) = ap suc (go entries)

pub pivot-read : (entries : List Entry) (i : ℕ) (e d : Entry) → i < length entries → e ≡ get_or entries i d → e.pivot ≡ get_or (pivots_of entries) i 0
pivot-read [] i e d l g = absurd (omega arith)
pivot-read (f ∷ entries) zero e d l g = ap (λ (k : Entry). k.pivot) g
pivot-read (f ∷ entries) (suc i) e d l g = pivot-read entries i e d (omega arith) g

-- ---- rows on their pivots
pub record Placed (rows pivots : List ℕ) (wires i : ℕ) (m : List ℕ) : Type 0 where
  pub long : length m ≡ wires
  pub there : (j : ℕ) → j < i → get_or m (get_or pivots j 0) 0 ≡ get_or rows j 0
  pub other : (w : ℕ) → w < wires → ((j : ℕ) → j < i → get_or pivots j 0 ≡ w → ⊥) → get_or m w 0 ≡ 2 ^ w

pub placed-none : (rows pivots : List ℕ) (wires : ℕ) (m : List ℕ) → m ≡ identity_rows wires → Placed rows pivots wires 0 m
placed-none rows pivots wires m e = record {
  long = ap length e ∙ length-identity wires;
  there = λ j l. absurd (omega arith);
  other = λ w l n. ap (λ (k : List ℕ). get_or k w 0) e ∙ get-identity wires w l;
}

pub placed-more : (rows pivots : List ℕ) (wires i p v : ℕ) (m : List ℕ) → ArePivots rows pivots → i < length rows
    → p ≡ get_or pivots i 0 → v ≡ get_or rows i 0 → p < wires → Placed rows pivots wires i m → Placed rows pivots wires (i + 1) (set m p v)
placed-more rows pivots wires i p v m h l ep ev lp g = record {
  long = length-set m p v ∙ g.long;
  there = λ j k. elim (cases_eq j i) [
    | inl e ↦ ap (λ q. get_or (set m p v) q 0) (ap (λ q. get_or pivots q 0) e ∙ sym ep)
        ∙ set_there m p v (omega (arith, g.long)) ∙ ev ∙ sym (ap (λ q. get_or rows q 0) e)
    | inr n ↦
        let s : j < i = omega (arith, n) in
        set_elsewhere m p (get_or pivots j 0) v (λ q. pivots-differ rows pivots j i h s l (q ∙ ep)) ∙ g.there j s
  ];
  other = λ w k n. set_elsewhere m p w v (λ q. n i (omega arith) (sym ep ∙ sym q)) ∙ g.other w k (λ j s. n j (omega arith));
}

-- ---- the matrix spans every row
-- whether a wire is one of the first i pivots
pivot-or : (pivots : List ℕ) (w i : ℕ) → ((j : ℕ) × (j < i) × (get_or pivots j 0 ≡ w)) ⊎ ((j : ℕ) → j < i → get_or pivots j 0 ≡ w → ⊥)
pivot-or pivots w zero = inr (λ j l. absurd (omega arith))
pivot-or pivots w (suc i) = elim (pivot-or pivots w i) [
  | inl p ↦ inl (p.0, omega (arith, p.1), p.2)
  | inr n ↦ elim (cases_eq (get_or pivots i 0) w) [
    | inl e ↦ inl (i, omega arith, e)
    | inr d ↦ inr (λ j l. elim (cases_eq j i) [
      | inl e ↦ λ q. d (sym (ap (λ k. get_or pivots k 0) e) ∙ q)
      | inr f ↦ n j (omega (arith, f))
    ])
  ]
]

-- each given row stands in the matrix
placed-span : (rows pivots : List ℕ) (wires : ℕ) (m : List ℕ) → ((j : ℕ) → j < length rows → get_or pivots j 0 < wires)
    → Placed rows pivots wires (length rows) m → All_span m rows
placed-span rows pivots wires m b g =
    All_span-from m rows (λ j l. Span-same m (get_or m (get_or pivots j 0) 0) (get_or rows j 0) (g.there j l)
    (Span-at m (get_or pivots j 0) (subst (λ k. get_or pivots j 0 < k) (sym g.long) (b j l))))

taken-span : (m rows : List ℕ) (j : ℕ) → All_span m rows → All_span m (take j rows)
taken-span m [] zero h = tt
taken-span m [] (suc j) h = tt
taken-span m (r ∷ rows) zero h = tt
taken-span m (r ∷ rows) (suc j) h = (h.0, taken-span m rows j h.1)

Lacks : List ℕ → ℕ → ℕ → Type 0
Lacks pivots i v = (j : ℕ) → j < i → bit_at v (get_or pivots j 0) ≡ 0

-- a row without the first k pivots is spanned, from all pivots down to none
lacking-span : (rows pivots : List ℕ) (n : ℕ) (m : List ℕ) → ArePivots rows pivots → ((k : ℕ) → get_or rows k 0 < 2 ^ n) → All_span m rows
    → ((v : ℕ) → v < 2 ^ n → Lacks pivots (length rows) v → Span m v)
    → (d k : ℕ) → k + d ≡ length rows → (v : ℕ) → v < 2 ^ n → Lacks pivots k v → Span m v
unfolding Lacks
lacking-span rows pivots n m h b s base zero k e v l z = base v l (λ j a. z j (omega (arith, e)))
lacking-span rows pivots n m h b s base (suc d) k e v l z =
    let lk : k < length rows = omega (arith, e) in
    let p : IsPivot (take k rows) (take k pivots) (get_or rows k 0) (get_or pivots k 0) = h.each k lk in
    let lo : p.left < 2 ^ n = left-below rows pivots n k b p in
    let row : Span m (get_or rows k 0) = spanned m rows k lk s in
    let sum : Span m (bit_xor (get_or rows k 0) p.left) =
    Span-within m (take k rows) (bit_xor (get_or rows k 0) p.left) (taken-span m rows k s) (is_sum-spanned (take k rows) (bit_xor (get_or rows k 0) p.left) p.sum) in
    let left : Span m p.left = Span-same m (bit_xor (get_or rows k 0) (bit_xor (get_or rows k 0) p.left)) p.left (xor_again (get_or rows k 0) p.left)
    (Span-add m (get_or rows k 0) (bit_xor (get_or rows k 0) p.left) row sum) in
    let early : (j : ℕ) → j < k → bit_at p.left (get_or pivots j 0) ≡ 0 =
    λ j a. sym (ap (bit_at p.left) (get_or-take k pivots j 0 a)) ∙ p.lacks j (omega (arith, length-take-le k pivots (omega (arith, h.long, lk)))) in
    next k (get_or pivots k 0) p.left v l lo z early p.least.there left (lacking-span rows pivots n m h b s base d (suc k) (omega (arith, e)))
  where
    spanned : (m rows : List ℕ) (k : ℕ) → k < length rows → All_span m rows → Span m (get_or rows k 0)
    spanned m [] k l s = absurd (omega arith)
    spanned m (r ∷ rows) zero l s = s.0
    spanned m (r ∷ rows) (suc k) l s = spanned m rows k (omega arith) s.1

    and-last : (k w : ℕ) → ((j : ℕ) → j < k → bit_at w (get_or pivots j 0) ≡ 0) → bit_at w (get_or pivots k 0) ≡ 0 → (j : ℕ) → j < suc k → bit_at w (get_or pivots j 0) ≡ 0
    and-last k w z t j a = elim (cases_eq j k) [
      | inl q ↦ ap (λ i. bit_at w (get_or pivots i 0)) q ∙ t
      | inr f ↦ z j (omega (arith, f))
    ]

    next : (k p left v : ℕ) → v < 2 ^ n → left < 2 ^ n → ((j : ℕ) → j < k → bit_at v (get_or pivots j 0) ≡ 0) → ((j : ℕ) → j < k → bit_at left (get_or pivots j 0) ≡ 0)
        → bit_at left (get_or pivots k 0) ≡ 1 → Span m left
        → ((w : ℕ) → w < 2 ^ n → ((j : ℕ) → j < suc k → bit_at w (get_or pivots j 0) ≡ 0) → Span m w) → Span m v
    next k p left v l lo z y o s ih = elim (cases_eq (bit_at v (get_or pivots k 0)) 1) [
      | inl t ↦
          Span-same m (bit_xor left (bit_xor left v)) v (xor_again left v)
          (Span-add m left (bit_xor left v) s
          (ih (bit_xor left v) (xor_lt n left v lo l)
          (and-last k (bit_xor left v) (λ j a. both_zero left v (get_or pivots j 0) (y j a) (z j a)) (both_one left v (get_or pivots k 0) o t))))
      | inr f ↦ ih v l (and-last k v z (bit_or_not v (get_or pivots k 0) f))
    ]

pub placed-independent : (rows pivots : List ℕ) (n : ℕ) (m : List ℕ) → ArePivots rows pivots → ((k : ℕ) → get_or rows k 0 < 2 ^ n)
    → Placed rows pivots n (length rows) m → is_independent m ≡ true
unfolding Lacks
placed-independent rows pivots n m h b g =
    let within : (j : ℕ) → j < length rows → get_or pivots j 0 < n = pivots-within rows pivots n h b in
    let given : All_span m rows = placed-span rows pivots n m within g in
    let unit : (w : ℕ) → w < n → ((j : ℕ) → j < length rows → get_or pivots j 0 ≡ w → ⊥) → Span m (2 ^ w) =
    λ w l f. Span-same m (get_or m w 0) (2 ^ w) (g.other w l f) (Span-at m w (subst (λ k. w < k) (sym g.long) l)) in
    let base : (v : ℕ) → v < 2 ^ n → ((j : ℕ) → j < length rows → bit_at v (get_or pivots j 0) ≡ 0) → Span m v =
    λ v l z. wires-span m n v l (λ w lw o. elim (pivot-or pivots w (length rows)) [
      | inl p ↦ absurd (omega (arith, sym o ∙ sym (ap (bit_at v) p.2) ∙ z p.0 p.1))
      | inr f ↦ unit w lw f
    ]) in
    let all : All_span m (identity_rows n) =
    All_span-from m (identity_rows n) (λ k l. lacking-span rows pivots n m h b given base (length rows) 0 (omega arith) (get_or (identity_rows n) k 0) (below-identity n k) (λ j a. absurd (omega arith))) in
    Free-independent m (free-count m (identity_rows n) all (free-identity n) (omega (arith, g.long, length-identity n)))

pub IsCompletion-placed : (rows pivots : List ℕ) (n : ℕ) (m : List ℕ) → ArePivots rows pivots → ((k : ℕ) → get_or rows k 0 < 2 ^ n)
    → Placed rows pivots n (length rows) m → IsCompletion rows n m
IsCompletion-placed rows pivots n m h b g = record {
  pivots = pivots;
  found = h;
  long = g.long;
  within = pivots-within rows pivots n h b;
  there = g.there;
  other = g.other;
}

pub placed-each : (rows pivots : List ℕ) (n : ℕ) (m : List ℕ) → ((j : ℕ) → j < length rows → get_or pivots j 0 < n)
    → Placed rows pivots n (length rows) m → All (Contains m) rows
placed-each rows pivots n m w g =
    All-from_get_or (Contains m) rows 0 (λ j l. subst (λ v. Contains m v) (g.there j l)
    (Contains-get_or m (get_or pivots j 0) 0 (subst (λ k. get_or pivots j 0 < k) (sym g.long) (w j l))))

pub all-below : (n : ℕ) (rows : List ℕ) → All (λ r. r < 2 ^ n) rows → (k : ℕ) → get_or rows k 0 < 2 ^ n
all-below n rows h k = elim (cases_lt k (length rows)) [
  | inl l ↦ All-get_or (λ r. r < 2 ^ n) rows k 0 l h
  | inr g ↦ subst (λ v. v < 2 ^ n) (sym (past rows k g)) (pow_pos n)
]
  where
    past : (xs : List ℕ) (k : ℕ) → length xs ≤ k → get_or xs k 0 ≡ 0
    past [] k l = refl
    past (x ∷ xs) zero l = absurd (omega arith)
    past (x ∷ xs) (suc k) l = past xs k (omega arith)
