-- A span and the rows that lie in it.
--   flat-none             no rows lie in it
--   flat-more             a row more that is not noted
--   flat-push             a row more that is noted
--   flat-shown            more rows than blocks can hold are a witness
--   IsFlatTo, flat-start, flat-next, flat-done     the rows at some places, one after the other
use Rattle.std.proofs.Common.{◌≡◌, ℕ, zero, suc, ◌+◌, ◌*◌, ◌<◌, ◌≤◌, true, List, [], ◌∷◌, ◌++◌, length, map, take, get_or, refl, sym, ap, subst, ◌∙◌, arith, inl, inr}
use Rattle.std.specs.Prelude.{All, Bool, MatchBool, false}
use Rattle.std.specs.List.Sorted.{IsStrictlyIncreasing}
use Rattle.std.proofs.lemmas.Bool.{cases_lt}
use Rattle.std.proofs.lemmas.List.{length-append, get_or_append_left, get_or_push}
use Rattle.std.proofs.lemmas.List.Elements.{All-append, All-nil, All-weaker}
use Rattle.std.proofs.lemmas.Nat.{mul-le}
use Rattle.std.proofs.Math.Seq.{take-length}
use Rattle.gf2_linear.specs.Rows.{is_sum, rank, rows_at}
use Rattle.gf2_linear.proofs.Ranks.{is_sum-spanned, rank-below}
use Rattle.matroid_partition.specs.declared.flat.Flat.{Flat}
use Rattle.matroid_partition.specs.Blocks.{IsShown}
use Rattle.matroid_partition.specs.Flats.{IsFlat}
use Rattle.matroid_partition.proofs.PlaceLaws.{Has-at}
use Rattle.matroid_partition.proofs.BlockLaws.{take-next}
use Rattle.matroid_partition.proofs.PartLaws.{all_span-from}
use Rattle.matroid_partition.proofs.PartitioningLaws.{inserted-row, inserted-kept}

pub flat-none : (rows : List ℕ) (f : Flat) → f.places.items ≡ [] → IsFlat rows f
flat-none rows f e = record {
  within = subst (All (λ i. i < length rows)) (sym e) (All-nil (λ i. i < length rows));
  ascending = subst IsStrictlyIncreasing (sym e) (λ k l. absurd (omega arith));
  spanned = subst (All (λ i. is_sum f.basis (get_or rows i 0) ≡ true)) (sym e) (All-nil (λ i. is_sum f.basis (get_or rows i 0) ≡ true));
}

pub flat-more : (rows : List ℕ) (x : ℕ) (f : Flat) → IsFlat rows f → IsFlat (rows ++ x ∷ []) f
flat-more rows x f h = record {
  within = All-weaker (λ i. i < length rows) (λ i. i < length (rows ++ x ∷ [])) (λ i l. omega (arith, length-append rows (x ∷ []))) f.places.items h.within;
  ascending = h.ascending;
  spanned = λ k d l. ap (is_sum f.basis) (get_or_append_left rows (x ∷ []) 0 (get_or f.places.items k d) (h.within k d l)) ∙ h.spanned k d l;
}

-- a number behind smaller ones
increasing-push : (ps : List ℕ) (n : ℕ) → IsStrictlyIncreasing ps → All (λ i. i < n) ps → IsStrictlyIncreasing (ps ++ n ∷ [])
increasing-push ps n a w k l =
    let e : length (ps ++ n ∷ []) ≡ length ps + 1 = length-append ps (n ∷ []) in
    let m : k < length ps = omega arith in
    let v : get_or (ps ++ n ∷ []) k 0 ≡ get_or ps k 0 = get_or_append_left ps (n ∷ []) 0 k m in
    elim (cases_lt (k + 1) (length ps)) [
      | inl t ↦
          let u : get_or (ps ++ n ∷ []) (k + 1) 0 ≡ get_or ps (k + 1) 0 = get_or_append_left ps (n ∷ []) 0 (k + 1) t in
          let h : get_or ps k 0 < get_or ps (k + 1) 0 = a k t in
          omega (arith, u, v)
      | inr g ↦
          let u : get_or (ps ++ n ∷ []) (k + 1) 0 ≡ n = get_or_push ps n 0 (k + 1) (omega arith) in
          let h : get_or ps k 0 < n = w k 0 m in
          omega (arith, u, v)
    ]

one : (P : ℕ → Type 0) (n : ℕ) → P n → All P (n ∷ [])
one P n p zero d l = p
one P n p (suc k) d l = absurd (omega arith)

pub flat-push : (rows : List ℕ) (x : ℕ) (o f : Flat) → IsFlat rows o → is_sum o.basis x ≡ true → f.basis ≡ o.basis → f.places.items ≡ o.places.items ++ length rows ∷ []
    → IsFlat (rows ++ x ∷ []) f
flat-push rows x o f h s b e =
    let more : IsFlat (rows ++ x ∷ []) o = flat-more rows x o h in
    record {
      within = subst (All (λ i. i < length (rows ++ x ∷ []))) (sym e)
          (All-append (λ i. i < length (rows ++ x ∷ [])) o.places.items (length rows ∷ []) more.within (one (λ i. i < length (rows ++ x ∷ [])) (length rows) (omega (arith, length-append rows (x ∷ [])))));
      ascending = subst IsStrictlyIncreasing (sym e) (increasing-push o.places.items (length rows) h.ascending h.within);
      spanned = subst (λ (q : List ℕ). All (λ i. is_sum q (get_or (rows ++ x ∷ []) i 0) ≡ true) f.places.items) (sym b)
          (subst (All (λ i. is_sum o.basis (get_or (rows ++ x ∷ []) i 0) ≡ true)) (sym e)
          (All-append (λ i. is_sum o.basis (get_or (rows ++ x ∷ []) i 0) ≡ true) o.places.items (length rows ∷ []) more.spanned
          (one (λ i. is_sum o.basis (get_or (rows ++ x ∷ []) i 0) ≡ true) (length rows) (ap (is_sum o.basis) (get_or_push rows x 0 (length rows) refl) ∙ s))));
    }

pub flat-shown : (rows : List ℕ) (k : ℕ) (f : Flat) → IsFlat rows f → k * length f.basis < length f.places.items → IsShown rows k f.places.items
unfolding rows_at
flat-shown rows k f h m =
    let r : rank (map (λ i. get_or rows i 0) f.places.items) ≤ length f.basis = rank-below f.basis (map (λ i. get_or rows i 0) f.places.items)
    (all_span-from f.basis (λ i. get_or rows i 0) f.places.items
    (λ y t. let at : (j : ℕ) × (j < length f.places.items) × (get_or f.places.items j 0 ≡ y) = Has-at f.places.items y t in
    is_sum-spanned f.basis (get_or rows y 0) (ap (λ i. is_sum f.basis (get_or rows i 0)) (sym at.2) ∙ h.spanned at.0 0 at.1))) in
    let w : k * rank (map (λ i. get_or rows i 0) f.places.items) ≤ k * length f.basis = mul-le k (rank (map (λ i. get_or rows i 0) f.places.items)) k (length f.basis) (omega arith) r in
    record { within = h.within; ascending = h.ascending; more = omega arith }

-- ---- the rows at some places
pub record IsFlatTo (rows places : List ℕ) (i : ℕ) (f : Flat) : Type 0 where
  pub listed : f.places.items ≡ take i places
  pub spanned : All (λ i. is_sum f.basis (get_or rows i 0) ≡ true) f.places.items

pub flat-start : (rows places : List ℕ) (f : Flat) → f.places.items ≡ [] → IsFlatTo rows places 0 f
flat-start rows places f e = record {
  listed = e;
  spanned = (flat-none rows f e).spanned;
}

insert-spans : (old new : List ℕ) (v : ℕ) (b : Bool) → MatchBool b (is_sum old v ≡ false) (is_sum old v ≡ true) → MatchBool b (new ≡ old ++ v ∷ []) (new ≡ old)
    → (is_sum new v ≡ true) × ((x : ℕ) → is_sum old x ≡ true → is_sum new x ≡ true)
insert-spans old new v true t e = (inserted-row old new v e, inserted-kept old new v e)
insert-spans old new v false t e = (ap (λ q. is_sum q v) e ∙ t, λ x s. ap (λ q. is_sum q x) e ∙ s)

pub flat-next : (rows places : List ℕ) (i v : ℕ) (b : Bool) (o f : Flat) → IsFlatTo rows places i o → i < length places → v ≡ get_or rows (get_or places i 0) 0
    → MatchBool b (is_sum o.basis v ≡ false) (is_sum o.basis v ≡ true) → MatchBool b (f.basis ≡ o.basis ++ v ∷ []) (f.basis ≡ o.basis)
    → f.places.items ≡ o.places.items ++ get_or places i 0 ∷ [] → IsFlatTo rows places (i + 1) f
flat-next rows places i v b o f h l e t k p =
    let s : (is_sum f.basis v ≡ true) × ((x : ℕ) → is_sum o.basis x ≡ true → is_sum f.basis x ≡ true) = insert-spans o.basis f.basis v b t k in
    record {
      listed = p ∙ ap (λ (q : List ℕ). q ++ get_or places i 0 ∷ []) h.listed ∙ sym (take-next places i 0 l);
      spanned = subst (All (λ j. is_sum f.basis (get_or rows j 0) ≡ true)) (sym p)
          (All-append (λ j. is_sum f.basis (get_or rows j 0) ≡ true) o.places.items (get_or places i 0 ∷ []) (λ j d m. s.1 (get_or rows (get_or o.places.items j d) 0) (h.spanned j d m))
          (one (λ j. is_sum f.basis (get_or rows j 0) ≡ true) (get_or places i 0) (ap (is_sum f.basis) (sym e) ∙ s.0)));
    }

pub flat-done : (rows places : List ℕ) (i : ℕ) (f : Flat) → IsFlatTo rows places i f → i ≡ length places → All (λ j. j < length rows) places → IsStrictlyIncreasing places → IsFlat rows f
flat-done rows places i f h e w a =
    let p : f.places.items ≡ places = h.listed ∙ ap (λ k. take k places) e ∙ take-length places in
    record {
      within = subst (All (λ j. j < length rows)) (sym p) w;
      ascending = subst IsStrictlyIncreasing (sym p) a;
      spanned = h.spanned;
    }
