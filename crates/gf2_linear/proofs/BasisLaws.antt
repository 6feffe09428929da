-- Reduction by entries.
--   Span-lack                a sum of entries that lack a wire lacks it
--   echelon-zero             a sum of the entries that lacks all their pivots is 0
--   pivot-at, told-at        what an entry keeps
--   clears-more, clears-added, clears-same    one entry more: its pivot is lacking, or taken out
--   told-more                one entry more is added
--   sums-span, free-Free, Free-free           what a basis keeps, in the words of spans
--   remainder-sum, remainder-is_sum, remainder-zero, remainder-none    what is left tells whether a row is a sum
--   least-nonzero            a row with a least wire isn't 0
--   room                     a row that is no sum finds fewer than 256
--   All_span-behind, All_span-append          one row more that spans, or is spanned
--   basis-push               a basis with one row more
use Rattle.std.proofs.Common.{◌≡◌, ℕ, zero, suc, ◌+◌, ◌^◌, ◌<◌, ◌≤◌, true, false, List, [], ◌∷◌, ◌++◌, length, get_or, refl, sym, ap, subst, ◌∙◌, arith, inl, inr}
use Rattle.std.specs.Prelude.{bit_xor}
use Rattle.std.specs.Int.{bit_at}
use Rattle.std.specs.Int.Bits.{xor_assoc}
use Rattle.std.proofs.lemmas.Nat.Bits.{bit_at-zero}
use Rattle.std.proofs.lemmas.Bool.{both_ways, false_from_ne_true}
use Rattle.gf2_linear.specs.declared.bases.Entry.{Entry}
use Rattle.gf2_linear.specs.Rows.{combined, is_sum}
use Rattle.gf2_linear.specs.Completions.{IsPivot, ArePivots}
use Rattle.gf2_linear.specs.Bases.{Lack, IsEchelon, rows_of, pivots_of, AreTold, AreSums, AreFree, IsBasis, Clears}
use Rattle.gf2_linear.proofs.Spans.{Span, All_span, Free, Span-same, Span-add, Span-within, Span-behind, Span-last, Free-append}
use Rattle.std.proofs.lemmas.Nat.{xor_comm, xor_lt, pow_below}
use Rattle.std.proofs.lemmas.List.{length-append}
use Rattle.gf2_linear.specs.Rows.{IsLeast}
use Rattle.gf2_linear.proofs.Xor.{xor_again, same_xor}
use Rattle.gf2_linear.proofs.WireLaws.{both_zero, both_one, other_zero, below-append, free-few}
use Rattle.gf2_linear.proofs.PivotLaws.{ArePivots-append}
use Rattle.gf2_linear.proofs.Combined.{combined-span, combined-within, combined-new, combined-xor}
use Rattle.gf2_linear.proofs.Ranks.{is_sum-spanned, Span-is_sum}

pub Span-lack : (w : ℕ) (entries : List Entry) (v : ℕ) → Lack w entries → Span (rows_of entries) v → bit_at v w ≡ 0
Span-lack w [] v l h = ap (λ k. bit_at k w) h ∙ bit_at-zero w
Span-lack w (e ∷ entries) v l h = elim h [
  | inl a ↦ Span-lack w entries v l.1 a
  | inr b ↦ other_zero e.row v w (Span-lack w entries (bit_xor e.row v) l.1 b) ∙ l.0
]

pub echelon-zero : (entries : List Entry) (v : ℕ) → IsEchelon entries → Clears (length entries) entries v → Span (rows_of entries) v → v ≡ 0
echelon-zero [] v l c h = h
echelon-zero (e ∷ entries) v l c h = elim h [
  | inl a ↦ echelon-zero entries v l.3 c.1 a
  | inr b ↦
      let z : bit_at (bit_xor e.row v) e.pivot ≡ 0 = Span-lack e.pivot entries (bit_xor e.row v) l.2 b in
      let s : bit_at v e.pivot ≡ bit_at e.row e.pivot = other_zero e.row v e.pivot z in
      absurd (omega (arith, s, c.0, l.1))
]

pub pivot-at : (entries : List Entry) (i : ℕ) (e d : Entry) → i < length entries → e ≡ get_or entries i d → IsEchelon entries → e.pivot < 256
pivot-at [] i e d l g h = absurd (omega arith)
pivot-at (f ∷ entries) zero e d l g h = subst (λ (k : Entry). k.pivot < 256) (sym g) h.0
pivot-at (f ∷ entries) (suc i) e d l g h = pivot-at entries i e d (omega arith) g h.3

lack-at : (w : ℕ) (entries : List Entry) (i : ℕ) (e d : Entry) → i < length entries → e ≡ get_or entries i d → Lack w entries → bit_at e.row w ≡ 0
lack-at w [] i e d l g h = absurd (omega arith)
lack-at w (f ∷ entries) zero e d l g h = subst (λ (k : Entry). bit_at k.row w ≡ 0) (sym g) h.0
lack-at w (f ∷ entries) (suc i) e d l g h = lack-at w entries i e d (omega arith) g h.1

pub told-at : (rows : List ℕ) (entries : List Entry) (i : ℕ) (e d : Entry) → i < length entries → e ≡ get_or entries i d → AreTold rows entries
    → (e.row ≡ combined rows e.members) × (e.members < 2 ^ length rows)
told-at rows [] i e d l g h = absurd (omega arith)
told-at rows (f ∷ entries) zero e d l g h = subst (λ (k : Entry). (k.row ≡ combined rows k.members) × (k.members < 2 ^ length rows)) (sym g) (h.0, h.1)
told-at rows (f ∷ entries) (suc i) e d l g h = told-at rows entries i e d (omega arith) g h.2

pub clears-more : (i : ℕ) (entries : List Entry) (e d : Entry) (v : ℕ) → i < length entries → e ≡ get_or entries i d
    → Clears i entries v → bit_at v e.pivot ≡ 0 → Clears (suc i) entries v
clears-more i [] e d v l g c z = absurd (omega arith)
clears-more zero (f ∷ entries) e d v l g c z = (subst (λ (k : Entry). bit_at v k.pivot ≡ 0) g z, tt)
clears-more (suc i) (f ∷ entries) e d v l g c z = (c.0, clears-more i entries e d v (omega arith) g c.1 z)

pub clears-added : (i : ℕ) (entries : List Entry) (e d : Entry) (v : ℕ) → IsEchelon entries → i < length entries → e ≡ get_or entries i d
    → Clears i entries v → bit_at v e.pivot ≡ 1 → Clears (suc i) entries (bit_xor v e.row)
clears-added i [] e d v h l g c o = absurd (omega arith)
clears-added zero (f ∷ entries) e d v h l g c o = (
  subst (λ (k : Entry). bit_at (bit_xor v e.row) k.pivot ≡ 0) g
      (both_one v e.row e.pivot o (subst (λ (k : Entry). bit_at k.row k.pivot ≡ 1) (sym g) h.1)),
  tt,
)
clears-added (suc i) (f ∷ entries) e d v h l g c o = (
  both_zero v e.row f.pivot c.0 (lack-at f.pivot entries i e d (omega arith) g h.2),
  clears-added i entries e d v h.3 (omega arith) g c.1 o,
)

pub clears-same : (i : ℕ) (entries : List Entry) (u v : ℕ) → u ≡ v → Clears (suc i) entries u → Clears (i + 1) entries v
clears-same i entries u v e h =
    let n : suc i ≡ i + 1 = omega arith in
    subst (λ k. Clears k entries v) n (subst (λ k. Clears (suc i) entries k) e h)

-- one row more is added
pub told-more : (rows : List ℕ) (v left members row more : ℕ) → left ≡ bit_xor v (combined rows members) → row ≡ combined rows more
    → bit_xor left row ≡ bit_xor v (combined rows (bit_xor members more))
told-more rows v left members row more t u =
    ap (λ k. bit_xor k row) t ∙ ap (bit_xor (bit_xor v (combined rows members))) u
    ∙ xor_assoc v (combined rows members) (combined rows more) ∙ ap (bit_xor v) (sym (combined-xor rows members more))

-- ---- what a basis keeps, in the words of spans
pub sums-span : (entries : List Entry) (rows : List ℕ) → AreSums entries rows → All_span (rows_of entries) rows
sums-span entries [] h = tt
sums-span entries (r ∷ rows) h = (is_sum-spanned (rows_of entries) r h.0, sums-span entries rows h.1)

pub free-Free : (rows : List ℕ) → AreFree rows → Free rows
free-Free [] h = tt
free-Free (r ∷ rows) h = ((λ s. both_ways (is_sum rows r) h.0 (Span-is_sum rows r s)), free-Free rows h.1)

pub Free-free : (rows : List ℕ) → Free rows → AreFree rows
Free-free [] h = tt
Free-free (r ∷ rows) h = (false_from_ne_true (is_sum rows r) (λ t. h.0 (is_sum-spanned rows r t)), Free-free rows h.1)

-- ---- a remainder
pub remainder-sum : (rows : List ℕ) (v left m : ℕ) → left ≡ bit_xor v (combined rows m) → left ≡ 0 → combined rows m ≡ v
remainder-sum rows v left m t z = sym (same_xor v (combined rows m) (sym t ∙ z))

pub remainder-is_sum : (rows : List ℕ) (v left m : ℕ) → left ≡ bit_xor v (combined rows m) → left ≡ 0 → is_sum rows v ≡ true
remainder-is_sum rows v left m t z = Span-is_sum rows v (Span-same rows (combined rows m) v (remainder-sum rows v left m t z) (combined-span rows m))

pub remainder-zero : (rows : List ℕ) (entries : List Entry) (v left m : ℕ) → IsBasis rows entries → Clears (length entries) entries left
    → left ≡ bit_xor v (combined rows m) → is_sum rows v ≡ true → left ≡ 0
remainder-zero rows entries v left m b c t h =
    echelon-zero entries left b.echelon c
    (Span-within (rows_of entries) rows left (sums-span entries rows b.sums)
    (Span-same rows (bit_xor v (combined rows m)) left (sym t) (Span-add rows v (combined rows m) (is_sum-spanned rows v h) (combined-span rows m))))

pub remainder-none : (rows : List ℕ) (entries : List Entry) (v left m : ℕ) → IsBasis rows entries → Clears (length entries) entries left
    → left ≡ bit_xor v (combined rows m) → (left ≡ 0 → ⊥) → is_sum rows v ≡ false
remainder-none rows entries v left m b c t n = false_from_ne_true (is_sum rows v) (λ h. n (remainder-zero rows entries v left m b c t h))

pub least-nonzero : (v w : ℕ) → IsLeast v w → v ≡ 0 → ⊥
least-nonzero v w l z = absurd (omega (arith, l.there, ap (λ k. bit_at k w) z ∙ bit_at-zero w))

-- ---- one row more
not-spanned : (rows : List ℕ) (v : ℕ) → is_sum rows v ≡ false → Span rows v → ⊥
not-spanned rows v n s = both_ways (is_sum rows v) n (Span-is_sum rows v s)

pub room : (rows : List ℕ) (entries : List Entry) (v : ℕ) → IsBasis rows entries → v < 2 ^ 256 → is_sum rows v ≡ false → length rows < 256
room rows entries v b g n =
    let f : length (rows ++ v ∷ []) ≤ 256 =
    free-few 256 (rows ++ v ∷ []) (below-append 256 rows v b.below g) (Free-append rows v (free-Free rows b.free) (not-spanned rows v n)) in
    omega (arith, f, length-append rows (v ∷ []))

Lack-append : (w : ℕ) (entries : List Entry) (e : Entry) → Lack w entries → bit_at e.row w ≡ 0 → Lack w (entries ++ e ∷ [])
Lack-append w [] e l z = (z, tt)
Lack-append w (f ∷ entries) e l z = (l.0, Lack-append w entries e l.1 z)

echelon-append : (entries : List Entry) (e : Entry) → IsEchelon entries → Clears (length entries) entries e.row → IsLeast e.row e.pivot → IsEchelon (entries ++ e ∷ [])
echelon-append [] e h c l = (l.within, l.there, tt, tt)
echelon-append (f ∷ entries) e h c l = (h.0, h.1, Lack-append f.pivot entries e h.2 c.0, echelon-append entries e h.3 c.1 l)

rows_of-append : (entries : List Entry) (e : Entry) → rows_of (entries ++ e ∷ []) ≡ rows_of entries ++ e.row ∷ []
rows_of-append [] e = refl
rows_of-append (f ∷ entries) e = ap (λ k. f.row ∷ k) (rows_of-append entries e)

told-append : (rows : List ℕ) (v : ℕ) (entries : List Entry) (e : Entry) → AreTold rows entries
    → e.row ≡ combined (rows ++ v ∷ []) e.members → e.members < 2 ^ length (rows ++ v ∷ []) → AreTold (rows ++ v ∷ []) (entries ++ e ∷ [])
told-append rows v [] e t p q = (p, q, tt)
told-append rows v (f ∷ entries) e t p q = (
  t.0 ∙ sym (combined-within rows v f.members t.1),
  (let l : 2 ^ length rows < 2 ^ length (rows ++ v ∷ []) = pow_below (length rows) (length (rows ++ v ∷ [])) (omega (arith, length-append rows (v ∷ []))) in omega (arith, l, t.1)),
  told-append rows v entries e t.2 p q,
)

sums-from : (entries : List Entry) (rows : List ℕ) → All_span (rows_of entries) rows → AreSums entries rows
sums-from entries [] h = tt
sums-from entries (r ∷ rows) h = (Span-is_sum (rows_of entries) r h.0, sums-from entries rows h.1)

pub All_span-behind : (ss : List ℕ) (x : ℕ) (rs : List ℕ) → All_span ss rs → All_span (ss ++ x ∷ []) rs
All_span-behind ss x [] h = tt
All_span-behind ss x (r ∷ rs) h = (Span-behind ss x r h.0, All_span-behind ss x rs h.1)

pub All_span-append : (ss rs : List ℕ) (v : ℕ) → All_span ss rs → Span ss v → All_span ss (rs ++ v ∷ [])
All_span-append ss [] v h s = (s, tt)
All_span-append ss (r ∷ rs) v h s = (h.0, All_span-append ss rs v h.1 s)

pivots_of-append : (entries : List Entry) (e : Entry) → pivots_of (entries ++ e ∷ []) ≡ pivots_of entries ++ e.pivot ∷ []
pivots_of-append [] e = refl
pivots_of-append (f ∷ entries) e = ap (λ k. f.pivot ∷ k) (pivots_of-append entries e)

lacks-pivots : (entries : List Entry) (v i : ℕ) → Clears (length entries) entries v → i < length (pivots_of entries) → bit_at v (get_or (pivots_of entries) i 0) ≡ 0
lacks-pivots [] v i c l = absurd (omega arith)
lacks-pivots (e ∷ entries) v zero c l = c.0
lacks-pivots (e ∷ entries) v (suc i) c l = lacks-pivots entries v i c.1 (omega arith)

-- what is left of a row has its pivot
remainder-pivot : (rows : List ℕ) (entries : List Entry) (v left m p : ℕ) → left ≡ bit_xor v (combined rows m) → Clears (length entries) entries left → IsLeast left p
    → IsPivot rows (pivots_of entries) v p
remainder-pivot rows entries v left m p t c l = record {
  left = left;
  sum = Span-is_sum rows (bit_xor v left) (Span-same rows (combined rows m) (bit_xor v left)
      (sym (ap (bit_xor v) t ∙ xor_again v (combined rows m))) (combined-span rows m));
  lacks = λ i k. lacks-pivots entries left i c k;
  least = l;
}

pub basis-push : (rows : List ℕ) (entries : List Entry) (v left m p : ℕ) → IsBasis rows entries → v < 2 ^ 256
    → left ≡ bit_xor v (combined rows m) → m < 2 ^ length rows → Clears (length entries) entries left → IsLeast left p
    → IsBasis (rows ++ v ∷ []) (entries ++ record { row = left; members = bit_xor m (2 ^ length rows); pivot = p } ∷ [])
basis-push rows entries v left m p b g t w c l =
    let n : is_sum rows v ≡ false = remainder-none rows entries v left m b c t (least-nonzero left p l) in
    let e : Entry = record { row = left; members = bit_xor m (2 ^ length rows); pivot = p } in
    let more : length (rows ++ v ∷ []) ≡ length rows + 1 = length-append rows (v ∷ []) in
    let wider : 2 ^ length rows < 2 ^ length (rows ++ v ∷ []) = pow_below (length rows) (length (rows ++ v ∷ [])) (omega (arith, more)) in
    let behind : All_span (rows_of entries ++ left ∷ []) rows = All_span-behind (rows_of entries) left rows (sums-span entries rows b.sums) in
    let back : bit_xor left (combined rows m) ≡ v =
    ap (λ k. bit_xor k (combined rows m)) t ∙ xor_comm (bit_xor v (combined rows m)) (combined rows m)
    ∙ ap (bit_xor (combined rows m)) (xor_comm v (combined rows m)) ∙ xor_again (combined rows m) v in
    let last : Span (rows_of entries ++ left ∷ []) v =
    Span-same (rows_of entries ++ left ∷ []) (bit_xor left (combined rows m)) v back
    (Span-add (rows_of entries ++ left ∷ []) left (combined rows m) (Span-last (rows_of entries) left)
    (Span-within (rows_of entries ++ left ∷ []) rows (combined rows m) behind (combined-span rows m))) in
    record {
      echelon = echelon-append entries e b.echelon c l;
      told = told-append rows v entries e b.told
          (t ∙ xor_comm v (combined rows m) ∙ sym (combined-new rows v m w))
          (xor_lt (length (rows ++ v ∷ [])) m (2 ^ length rows) (omega (arith, wider, w)) wider);
      sums = sums-from (entries ++ e ∷ []) (rows ++ v ∷ [])
          (subst (λ (k : List ℕ). All_span k (rows ++ v ∷ [])) (sym (rows_of-append entries e))
          (All_span-append (rows_of entries ++ left ∷ []) rows v behind last));
      free = Free-free (rows ++ v ∷ []) (Free-append rows v (free-Free rows b.free) (not-spanned rows v n));
      pivots = subst (λ (k : List ℕ). ArePivots (rows ++ v ∷ []) k) (sym (pivots_of-append entries e))
          (ArePivots-append rows v (pivots_of entries) p b.pivots (remainder-pivot rows entries v left m p t c l));
      below = below-append 256 rows v b.below g;
    }
