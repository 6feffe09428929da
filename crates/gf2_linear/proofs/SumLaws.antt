-- Ranks and sums as loops gather them.
--   item, take-more         a row that is read, and the rows up to it
--   Gathered rows i basis   the basis is chosen among the first i rows and spans them
--   gathered-none, gathered-insert, gathered-rank   no row; one row more; the rank of all
--   taken-insert            independent rows all come in
--   taken-new, taken-dependent, taken-independent   rows are independent exactly where all come in
--   row_sum-append          the sum of two lists
--   places-sum, places-more, IsSumAt-places, IsSumAt-told   the rows whose places are in a set sum to what the set combines
use Rattle.std.proofs.Common.{◌≡◌, ℕ, zero, suc, ◌+◌, ◌<◌, ◌≤◌, Bool, true, false, cond, List, [], ◌∷◌, ◌++◌, length, map, take, drop, get_or, refl, sym, ap, subst, ◌∙◌, arith, inl, inr}
use Rattle.std.specs.Prelude.{bit_xor, nat_eq, IsTrue}
use Rattle.std.specs.Bool.{MatchBool}
use Rattle.std.specs.Int.{bit_at}
use Rattle.std.specs.Int.Bits.{xor_assoc, xor_self, xor_zero_l, xor_zero_r}
use Rattle.std.proofs.lemmas.Nat.{xor_comm}
use Rattle.std.proofs.Math.ListN.{get_or-append}
use Rattle.std.proofs.Math.Seq.{take-suc, take-length, get_or-append_seam}
use Rattle.std.proofs.lemmas.List.{length-append, length-take-le, map-append, append-nil}
use Rattle.std.proofs.lemmas.Bool.{both_ways, eq-eqb, ne_eqb, cases_lt, false_from_ne_true}
use Rattle.gf2_linear.specs.Rows.{row_sum, combined, is_sum, is_independent, rank, rows_at, places_in, IsSumAt}
use Rattle.gf2_linear.proofs.Xor.{xor_again}
use Rattle.gf2_linear.proofs.Spans.{Span, All_span, Free, Span-same, Span-zero, Span-last, Span-add}
use Rattle.gf2_linear.proofs.Ranks.{Choice, is_sum-spanned, independent-Free, rank-basis}
use Rattle.gf2_linear.proofs.BasisLaws.{All_span-behind, All_span-append}
use Rattle.gf2_linear.proofs.Combined.{combined-append}

-- the default of a read within the list doesn't matter
pub item : (xs : List ℕ) (i x : ℕ) → i < length xs → x ≡ get_or xs i x → x ≡ get_or xs i 0
item [] i x h e = absurd (omega arith)
item (y ∷ xs) zero x h e = e
item (y ∷ xs) (suc i) x h e = item xs i x (omega arith) e

pub take-more : (rows : List ℕ) (i : ℕ) → i < length rows → take (i + 1) rows ≡ take i rows ++ get_or rows i 0 ∷ []
take-more rows i h = let e : i + 1 ≡ suc i = omega arith in ap (λ k. take k rows) e ∙ take-suc rows i 0 h

choice-skip : (rows : List ℕ) (x : ℕ) (c : List ℕ) → Choice rows c → Choice (rows ++ x ∷ []) c
choice-skip [] x c h = inl h
choice-skip (r ∷ rows) x c h = elim h [ inl a ↦ inl (choice-skip rows x c a) | inr p ↦ inr (p.0, p.1, choice-skip rows x p.0 p.2) ]

choice-take : (rows : List ℕ) (x : ℕ) (c : List ℕ) → Choice rows c → Choice (rows ++ x ∷ []) (c ++ x ∷ [])
choice-take [] x c h = inr ([], ap (λ k. k ++ x ∷ []) h, refl)
choice-take (r ∷ rows) x c h = elim h [
  | inl a ↦ inl (choice-take rows x c a)
  | inr p ↦ inr (p.0 ++ x ∷ [], ap (λ k. k ++ x ∷ []) p.1, choice-take rows x p.0 p.2)
]

pub record Gathered (rows : List ℕ) (i : ℕ) (basis : List ℕ) : Type 0 where
  pub chosen : Choice (take i rows) basis
  pub spans : All_span basis (take i rows)

pub gathered-insert : (rows : List ℕ) (i x : ℕ) (b : Bool) (old new : List ℕ) → i < length rows → x ≡ get_or rows i x
    → MatchBool b (is_sum old x ≡ false) (is_sum old x ≡ true) → MatchBool b (new ≡ old ++ x ∷ []) (new ≡ old)
    → Gathered rows i old → Gathered rows (i + 1) new
gathered-insert rows i x true old new h e t o g =
    let n : take (i + 1) rows ≡ take i rows ++ x ∷ [] = take-more rows i h ∙ ap (λ k. take i rows ++ k ∷ []) (sym (item rows i x h e)) in
    record {
      chosen = subst (λ (k : List ℕ). Choice k new) (sym n) (subst (λ (k : List ℕ). Choice (take i rows ++ x ∷ []) k) (sym o) (choice-take (take i rows) x old g.chosen));
      spans = subst (λ (k : List ℕ). All_span new k) (sym n) (subst (λ (k : List ℕ). All_span k (take i rows ++ x ∷ [])) (sym o)
          (All_span-append (old ++ x ∷ []) (take i rows) x (All_span-behind old x (take i rows) g.spans) (Span-last old x)));
    }
gathered-insert rows i x false old new h e t o g =
    let n : take (i + 1) rows ≡ take i rows ++ x ∷ [] = take-more rows i h ∙ ap (λ k. take i rows ++ k ∷ []) (sym (item rows i x h e)) in
    record {
      chosen = subst (λ (k : List ℕ). Choice k new) (sym n) (subst (λ (k : List ℕ). Choice (take i rows ++ x ∷ []) k) (sym o) (choice-skip (take i rows) x old g.chosen));
      spans = subst (λ (k : List ℕ). All_span new k) (sym n) (subst (λ (k : List ℕ). All_span k (take i rows ++ x ∷ [])) (sym o)
          (All_span-append old (take i rows) x g.spans (is_sum-spanned old x t)));
    }

pub gathered-rank : (rows : List ℕ) (i : ℕ) (basis : List ℕ) → i ≡ length rows → is_independent basis ≡ true → Gathered rows i basis → length basis ≡ rank rows
gathered-rank rows i basis e f g =
    let n : take i rows ≡ rows = ap (λ k. take k rows) e ∙ take-length rows in
    sym (rank-basis basis rows (subst (λ (k : List ℕ). Choice k basis) n g.chosen) (independent-Free basis f) (subst (λ (k : List ℕ). All_span basis k) n g.spans))

-- ---- independent rows all come in
span-left : (ps qs : List ℕ) (v : ℕ) → Span ps v → Span (ps ++ qs) v
span-left [] qs v h = Span-same qs 0 v (sym h) (Span-zero qs)
span-left (p ∷ ps) qs v h = elim h [ inl a ↦ inl (span-left ps qs v a) | inr b ↦ inr (span-left ps qs (bit_xor p v) b) ]

span-middle : (ps : List ℕ) (r : ℕ) (qs : List ℕ) → Span (ps ++ r ∷ qs) r
span-middle [] r qs = inr (Span-same qs 0 (bit_xor r r) (sym (xor_self r)) (Span-zero qs))
span-middle (p ∷ ps) r qs = inl (span-middle ps r qs)

free-prefix : (ps : List ℕ) (r : ℕ) (qs : List ℕ) → Free (ps ++ r ∷ qs) → Span ps r → ⊥
free-prefix [] r qs f s = f.0 (Span-same qs 0 r (sym s) (Span-zero qs))
free-prefix (p ∷ ps) r qs f s = elim s [
  | inl a ↦ free-prefix ps r qs f.1 a
  | inr b ↦ f.0 (Span-same (ps ++ r ∷ qs) (bit_xor (bit_xor p r) r) p
      (xor_comm (bit_xor p r) r ∙ ap (bit_xor r) (xor_comm p r) ∙ xor_again r p)
      (Span-add (ps ++ r ∷ qs) (bit_xor p r) r (span-left ps (r ∷ qs) (bit_xor p r) b) (span-middle ps r qs)))
]

split : (rows : List ℕ) (i : ℕ) → i < length rows → rows ≡ take i rows ++ get_or rows i 0 ∷ drop (suc i) rows
split [] i h = absurd (omega arith)
split (r ∷ rows) zero h = refl
split (r ∷ rows) (suc i) h = ap (λ k. r ∷ k) (split rows i (omega arith))

free-taken : (rows : List ℕ) (i : ℕ) → i < length rows → Free rows → Span (take i rows) (get_or rows i 0) → ⊥
free-taken rows i h f s = free-prefix (take i rows) (get_or rows i 0) (drop (suc i) rows) (subst Free (split rows i h) f) s

pub taken-insert : (rows : List ℕ) (i x : ℕ) (b : Bool) (old new : List ℕ) → i < length rows → x ≡ get_or rows i x → is_independent rows ≡ true
    → MatchBool b (is_sum old x ≡ false) (is_sum old x ≡ true) → MatchBool b (new ≡ old ++ x ∷ []) (new ≡ old)
    → old ≡ take i rows → new ≡ take (i + 1) rows
taken-insert rows i x true old new h e f t o g = o ∙ ap (λ k. k ++ x ∷ []) g ∙ ap (λ k. take i rows ++ k ∷ []) (item rows i x h e) ∙ sym (take-more rows i h)
taken-insert rows i x false old new h e f t o g =
    absurd (free-taken rows i h (independent-Free rows f)
    (subst (λ (k : List ℕ). Span k (get_or rows i 0)) g (Span-same old x (get_or rows i 0) (item rows i x h e) (is_sum-spanned old x t))))

pub taken-new : (rows : List ℕ) (i x : ℕ) (b : Bool) (old new : List ℕ) → i < length rows → x ≡ get_or rows i x → b ≡ true
    → MatchBool b (new ≡ old ++ x ∷ []) (new ≡ old) → old ≡ take i rows → new ≡ take (i + 1) rows
taken-new rows i x true old new h e t o g = o ∙ ap (λ k. k ++ x ∷ []) g ∙ ap (λ k. take i rows ++ k ∷ []) (item rows i x h e) ∙ sym (take-more rows i h)
taken-new rows i x false old new h e t o g = absurd (both_ways false refl t)

pub taken-dependent : (rows : List ℕ) (i x : ℕ) (b : Bool) (old : List ℕ) → i < length rows → x ≡ get_or rows i x → b ≡ false
    → MatchBool b (is_sum old x ≡ false) (is_sum old x ≡ true) → old ≡ take i rows → false ≡ is_independent rows
taken-dependent rows i x true old h e f t g = absurd (both_ways true f refl)
taken-dependent rows i x false old h e f t g =
    sym (false_from_ne_true (is_independent rows) (λ d. free-taken rows i h (independent-Free rows d)
    (subst (λ (k : List ℕ). Span k (get_or rows i 0)) g (Span-same old x (get_or rows i 0) (item rows i x h e) (is_sum-spanned old x t)))))

pub taken-independent : (rows : List ℕ) (i : ℕ) (basis : List ℕ) → i ≡ length rows → is_independent basis ≡ true → basis ≡ take i rows → true ≡ is_independent rows
taken-independent rows i basis e f g = sym (ap is_independent (sym (g ∙ ap (λ k. take k rows) e ∙ take-length rows)) ∙ f)

-- ---- places
pub row_sum-append : (xs ys : List ℕ) → row_sum (xs ++ ys) ≡ bit_xor (row_sum xs) (row_sum ys)
unfolding row_sum
row_sum-append [] ys = sym (xor_zero_l (row_sum ys))
row_sum-append (x ∷ xs) ys = ap (bit_xor x) (row_sum-append xs ys) ∙ sym (xor_assoc x (row_sum xs) (row_sum ys))

pub places-sum : (rows : List ℕ) (set n : ℕ) → n ≤ length rows → row_sum (rows_at rows (places_in n set)) ≡ combined (take n rows) set
unfolding row_sum rows_at combined
places-sum rows set zero h = refl
places-sum rows set (suc n) h =
    let l : n < length rows = omega arith in
    go (nat_eq (bit_at set n) 1) refl l (places-sum rows set n (omega arith))
  where
    lengths : n < length rows → length (take n rows) ≡ n
    lengths l = length-take-le n rows (omega arith)

    next : n < length rows → combined (take (suc n) rows) set ≡ bit_xor (combined (take n rows) set) (cond (nat_eq (bit_at set n) 1) (get_or rows n 0) 0)
    next l = ap (λ k. combined k set) (take-suc rows n 0 l) ∙ combined-append (take n rows) (get_or rows n 0) set
        ∙ ap (λ k. bit_xor (combined (take n rows) set) (cond (nat_eq (bit_at set k) 1) (get_or rows n 0) 0)) (lengths l)

    go : (b : Bool) → nat_eq (bit_at set n) 1 ≡ b → n < length rows → row_sum (rows_at rows (places_in n set)) ≡ combined (take n rows) set
        → row_sum (map (λ k. get_or rows k 0) (places_in n set ++ cond b (n ∷ []) [])) ≡ combined (take (suc n) rows) set
    go true e l ih =
        ap row_sum (map-append (λ k. get_or rows k 0) (places_in n set) (n ∷ []))
        ∙ row_sum-append (map (λ k. get_or rows k 0) (places_in n set)) (get_or rows n 0 ∷ [])
        ∙ ap (λ k. bit_xor k (bit_xor (get_or rows n 0) 0)) ih
        ∙ ap (bit_xor (combined (take n rows) set)) (xor_zero_r (get_or rows n 0))
        ∙ sym (next l ∙ ap (λ b. bit_xor (combined (take n rows) set) (cond b (get_or rows n 0) 0)) e)
    go false e l ih =
        ap (λ k. row_sum (map (λ j. get_or rows j 0) k)) (append-nil (places_in n set)) ∙ ih
        ∙ sym (next l ∙ ap (λ b. bit_xor (combined (take n rows) set) (cond b (get_or rows n 0) 0)) e ∙ xor_zero_r (combined (take n rows) set))

-- the places are below n and ascend
places-below : (n set j : ℕ) → j < length (places_in n set) → get_or (places_in n set) j 0 < n
places-below zero set j h = absurd (omega arith)
places-below (suc n) set j h = go (nat_eq (bit_at set n) 1) h (places-below n set j)
  where
    go : (b : Bool) → j < length (places_in n set ++ cond b (n ∷ []) []) → (j < length (places_in n set) → get_or (places_in n set) j 0 < n)
        → get_or (places_in n set ++ cond b (n ∷ []) []) j 0 < suc n
    go true l ih = elim (cases_lt j (length (places_in n set))) [
      | inl s ↦ let m : get_or (places_in n set) j 0 < n = ih s in
          subst (λ k. k < suc n) (sym (get_or-append (places_in n set) (n ∷ []) 0 j s)) (omega arith)
      | inr g ↦ let e : j ≡ length (places_in n set) = omega (arith, length-append (places_in n set) (n ∷ [])) in
          subst (λ k. k < suc n) (sym (ap (λ k. get_or (places_in n set ++ n ∷ []) k 0) e ∙ get_or-append_seam (places_in n set) n [] 0)) (omega arith)
    ]
    go false l ih = subst (λ (k : List ℕ). j < length k → get_or k j 0 < suc n) (sym (append-nil (places_in n set)))
        (λ s. let m : get_or (places_in n set) j 0 < n = ih s in omega arith) l

places-ascend : (n set j k : ℕ) → j < k → k < length (places_in n set) → get_or (places_in n set) j 0 < get_or (places_in n set) k 0
places-ascend zero set j k h l = absurd (omega arith)
places-ascend (suc n) set j k h l = go (nat_eq (bit_at set n) 1) l (places-ascend n set j k h)
  where
    go : (b : Bool) → k < length (places_in n set ++ cond b (n ∷ []) []) → (k < length (places_in n set) → get_or (places_in n set) j 0 < get_or (places_in n set) k 0)
        → get_or (places_in n set ++ cond b (n ∷ []) []) j 0 < get_or (places_in n set ++ cond b (n ∷ []) []) k 0
    go true l ih = elim (cases_lt k (length (places_in n set))) [
      | inl s ↦ subst (λ m. m < get_or (places_in n set ++ n ∷ []) k 0) (sym (get_or-append (places_in n set) (n ∷ []) 0 j (omega arith)))
          (subst (λ m. get_or (places_in n set) j 0 < m) (sym (get_or-append (places_in n set) (n ∷ []) 0 k s)) (ih s))
      | inr g ↦ let e : k ≡ length (places_in n set) = omega (arith, length-append (places_in n set) (n ∷ [])) in
          let s : j < length (places_in n set) = omega arith in
          subst (λ m. m < get_or (places_in n set ++ n ∷ []) k 0) (sym (get_or-append (places_in n set) (n ∷ []) 0 j s))
          (subst (λ m. get_or (places_in n set) j 0 < m) (sym (ap (λ m. get_or (places_in n set ++ n ∷ []) m 0) e ∙ get_or-append_seam (places_in n set) n [] 0))
          (places-below n set j s))
    ]
    go false l ih = subst (λ (q : List ℕ). k < length q → get_or q j 0 < get_or q k 0) (sym (append-nil (places_in n set))) ih l

pub IsSumAt-places : (rows : List ℕ) (v set : ℕ) → combined rows set ≡ v → IsSumAt rows v (places_in (length rows) set)
IsSumAt-places rows v set e = record {
  within = λ j l. places-below (length rows) set j l;
  ascending = λ j k h l. places-ascend (length rows) set j k h l;
  sum = places-sum rows set (length rows) (omega arith) ∙ ap (λ k. combined k set) (take-length rows) ∙ e;
}

pub places-more : (n set : ℕ) (b : Bool) (p : List ℕ) → (IsTrue b → bit_at set n ≡ 1) × (bit_at set n ≡ 1 → IsTrue b)
    → p ≡ places_in n set ++ cond b (n ∷ []) [] → p ≡ places_in (n + 1) set
places-more n set true p h e = let s : n + 1 ≡ suc n = omega arith in
    e ∙ ap (λ b. places_in n set ++ cond b (n ∷ []) []) (sym (eq-eqb (bit_at set n) 1 (h.0 refl))) ∙ ap (λ k. places_in k set) (sym s)
places-more n set false p h e = let s : n + 1 ≡ suc n = omega arith in
    e ∙ ap (λ b. places_in n set ++ cond b (n ∷ []) []) (sym (ne_eqb (bit_at set n) 1 (λ o. both_ways false refl (h.1 o)))) ∙ ap (λ k. places_in k set) (sym s)

pub gathered-none : (rows basis : List ℕ) → basis ≡ [] → Gathered rows 0 basis
gathered-none rows basis e = record { chosen = sym e; spans = tt }

pub IsSumAt-told : (rows basis : List ℕ) (v set count : ℕ) (places : List ℕ) → basis ≡ rows → combined basis set ≡ v → count ≡ length basis
    → places ≡ places_in count set → IsSumAt rows v places
IsSumAt-told rows basis v set count places b e n p =
    subst (λ (q : List ℕ). IsSumAt rows v q) (sym (p ∙ ap (λ k. places_in k set) (n ∙ ap length b)))
    (IsSumAt-places rows v set (ap (λ (q : List ℕ). combined q set) (sym b) ∙ e))
