-- Partitions with spares.
--   others S block             the places of a block that are not among S
--   rank-kept                  rows that are left out lower the rank by their number at most
--   wide-kept                  of a block with m rows more than its rank at most, a choice has m more than its own at most
--   covered-wide               places that stand in such blocks are at most as many blocks times their rank and m
--   least-by_spare_witness     so a witness against k blocks shows that each partition with spares has more than k
--   spare-witness-more         reached rows, each spanned by the reached rows of every block, among them rows that stand in no block
--   wide-dealt                 independent rows, with m more at most
use Rattle.std.proofs.Common.{◌≡◌, ℕ, suc, ◌+◌, ◌*◌, ◌<◌, ◌≤◌, Bool, true, false, cond, List, [], ◌∷◌, ◌++◌, length, map, refl, sym, ap, arith, ◌⊎◌, inl, inr}
use Rattle.std.specs.Prelude.{bit_xor}
use Rattle.std.proofs.lemmas.Bool.{cases_lt}
use Rattle.std.proofs.lemmas.List.{length-append, length-map}
use Rattle.std.proofs.lemmas.Nat.{mul-le}
use Rattle.std.proofs.Math.Nat.{mul-add, suc-mul}
use Rattle.gf2_linear.specs.Rows.{rank}
use Rattle.gf2_linear.proofs.Spans.{Span, All_span, Free, Span-zero, Span-same, Span-within, All_span-within}
use Rattle.gf2_linear.proofs.Ranks.{Choice, rank-below, rank-least}
use Rattle.matroid_partition.specs.Places.{Has}
use Rattle.matroid_partition.proofs.Exchanges.{Has-span}
use Rattle.matroid_partition.proofs.Witnesses.{is_in, kept, kept_total, kept-total, times_total, Distinct, At_most_once, At_least_once, All_close, times_total-most, times_total-all, rank-total, basis-among, rank-spanned, kept-spanned}
use Rattle.matroid_partition.proofs.PartLaws.{all_span-from, kept-all}

-- ---- rows that are left out
abbrev pub others : List ℕ → List ℕ → List ℕ
others S [] = []
others S (b ∷ block) = cond (is_in S b) (others S block) (b ∷ others S block)

pub others-length : (S block : List ℕ) → length (kept S block) + length (others S block) ≡ length block
others-length S [] = refl
others-length S (b ∷ block) = go (is_in S b) (others-length S block)
  where
    go : (t : Bool) → length (kept S block) + length (others S block) ≡ length block
        → length (cond t (b ∷ kept S block) (kept S block)) + length (cond t (others S block) (b ∷ others S block)) ≡ length (b ∷ block)
    go true h = omega arith
    go false h = omega arith

either : (S block : List ℕ) (y : ℕ) → Has block y → Has (kept S block) y ⊎ Has (others S block) y
either S [] y h = absurd h
either S (b ∷ block) y h = go (is_in S b) h (λ t. either S block y t)
  where
    go : (t : Bool) → (b ≡ y) ⊎ Has block y → (Has block y → Has (kept S block) y ⊎ Has (others S block) y)
        → Has (cond t (b ∷ kept S block) (kept S block)) y ⊎ Has (cond t (others S block) (b ∷ others S block)) y
    go true (inl e) k = inl (inl e)
    go true (inr m) k = elim (k m) [ inl a ↦ inl (inr a) | inr a ↦ inr a ]
    go false (inl e) k = inr (inl e)
    go false (inr m) k = elim (k m) [ inl a ↦ inl a | inr a ↦ inr (inr a) ]

span-left : (ps qs : List ℕ) (v : ℕ) → Span ps v → Span (ps ++ qs) v
span-left [] qs v s = Span-same qs 0 v (sym s) (Span-zero qs)
span-left (p ∷ ps) qs v s = elim s [ inl a ↦ inl (span-left ps qs v a) | inr a ↦ inr (span-left ps qs (bit_xor p v) a) ]

span-right : (ps qs : List ℕ) (v : ℕ) → Span qs v → Span (ps ++ qs) v
span-right [] qs v s = s
span-right (p ∷ ps) qs v s = inl (span-right ps qs v s)

rank-kept : (r : ℕ → ℕ) (S block : List ℕ) → rank (map r block) ≤ rank (map r (kept S block)) + length (others S block)
rank-kept r S block =
    let p : (b : List ℕ) × Choice (map r (kept S block)) b × Free b × All_span b (map r (kept S block)) = basis-among (map r (kept S block)) in
    let l : length p.0 ≤ rank (map r (kept S block)) = rank-least p.0 (map r (kept S block)) p.1 p.2 in
    let s : All_span (p.0 ++ map r (others S block)) (map r block) =
    all_span-from (p.0 ++ map r (others S block)) r block (λ y h. elim (either S block y h) [
      | inl a ↦ span-left p.0 (map r (others S block)) (r y) (Span-within p.0 (map r (kept S block)) (r y) p.3 (Has-span r y (kept S block) a))
      | inr a ↦ span-right p.0 (map r (others S block)) (r y) (Has-span r y (others S block) a)
    ]) in
    let m : rank (map r block) ≤ length (p.0 ++ map r (others S block)) = rank-below (p.0 ++ map r (others S block)) (map r block) s in
    omega (arith, length-append p.0 (map r (others S block)), length-map (others S block) r)

-- rows that others span have no greater rank
rank-within : (xs ys : List ℕ) → All_span xs ys → rank ys ≤ rank xs
rank-within xs ys s =
    let p : (b : List ℕ) × Choice xs b × Free b × All_span b xs = basis-among xs in
    let l : length p.0 ≤ rank xs = rank-least p.0 xs p.1 p.2 in
    let m : rank ys ≤ length p.0 = rank-below p.0 ys (All_span-within p.0 xs ys p.3 s) in
    omega arith

wide-kept : (r : ℕ → ℕ) (m : ℕ) (S block : List ℕ) → length block ≤ rank (map r block) + m → length (kept S block) ≤ rank (map r S) + m
wide-kept r m S block w =
    let a : rank (map r block) ≤ rank (map r (kept S block)) + length (others S block) = rank-kept r S block in
    let b : rank (map r (kept S block)) ≤ rank (map r S) = rank-within (map r S) (map r (kept S block)) (kept-spanned r S block) in
    omega (arith, others-length S block)

-- ---- no partition has fewer blocks
abbrev pub All_wide : (ℕ → ℕ) → ℕ → List (List ℕ) → Type 0
All_wide r m [] = Unit {0}
All_wide r m (b ∷ blocks) = (length b ≤ rank (map r b) + m) × All_wide r m blocks

kept_total-wide : (r : ℕ → ℕ) (m : ℕ) (S : List ℕ) (blocks : List (List ℕ)) → All_wide r m blocks → kept_total S blocks ≤ length blocks * (rank (map r S) + m)
kept_total-wide r m S [] w = omega arith
kept_total-wide r m S (b ∷ blocks) w =
    let one : length (kept S b) ≤ rank (map r S) + m = wide-kept r m S b w.0 in
    let rest : kept_total S blocks ≤ length blocks * (rank (map r S) + m) = kept_total-wide r m S blocks w.1 in
    let e : suc (length blocks) * (rank (map r S) + m) ≡ length blocks * (rank (map r S) + m) + (rank (map r S) + m) = suc-mul (length blocks) (rank (map r S) + m) in
    omega (arith, e)

covered-wide : (r : ℕ → ℕ) (m : ℕ) (S : List ℕ) (blocks : List (List ℕ)) → Distinct S → At_least_once S blocks → All_wide r m blocks
    → length S ≤ length blocks * (rank (map r S) + m)
covered-wide r m S blocks d a w =
    let low : length S ≤ times_total S blocks = times_total-all S blocks a in
    let same : kept_total S blocks ≡ times_total S blocks = kept-total S blocks d in
    let high : kept_total S blocks ≤ length blocks * (rank (map r S) + m) = kept_total-wide r m S blocks w in
    omega (arith, same)

pub least-by_spare_witness : (r : ℕ → ℕ) (m : ℕ) (S : List ℕ) (k : ℕ) (blocks : List (List ℕ)) → Distinct S → At_least_once S blocks → All_wide r m blocks
    → k * (rank (map r S) + m) < length S → k < length blocks
least-by_spare_witness r m S k blocks d a w h = elim (cases_lt k (length blocks)) [
  | inl l ↦ l
  | inr g ↦
      let high : length S ≤ length blocks * (rank (map r S) + m) = covered-wide r m S blocks d a w in
      let le : length blocks * (rank (map r S) + m) ≤ k * (rank (map r S) + m) = mul-le (length blocks) (rank (map r S) + m) k (rank (map r S) + m) g (omega arith) in
      absurd (omega arith)
]

-- ---- what all searches reach, where more rows are over than the blocks take with their spares
pub spare-witness-more : (r : ℕ → ℕ) (m : ℕ) (S over : List ℕ) (blocks : List (List ℕ)) → Distinct S → At_most_once S (over ∷ blocks) → All_close r S blocks
    → ((y : ℕ) → Has over y → Has S y) → length blocks * m < length over → length blocks * (rank (map r S) + m) < length S
spare-witness-more r m S over blocks d a c o g =
    let low : length blocks * rank (map r S) ≤ kept_total S blocks = rank-total r S blocks c in
    let all : kept S over ≡ over = kept-all S over o in
    let same : kept_total S (over ∷ blocks) ≡ times_total S (over ∷ blocks) = kept-total S (over ∷ blocks) d in
    let high : times_total S (over ∷ blocks) ≤ length S = times_total-most S (over ∷ blocks) a in
    let e : length (kept S over) ≡ length over = ap length all in
    let t : length blocks * (rank (map r S) + m) ≡ length blocks * rank (map r S) + length blocks * m = mul-add (length blocks) (rank (map r S)) m in
    omega (arith, same, e, t)

-- ---- k blocks do where at most k * m rows are over
pub wide-dealt : (r : ℕ → ℕ) (m : ℕ) (block dealt : List ℕ) → Free (map r block) → ((y : ℕ) → Has block y → Has dealt y) → length dealt ≤ length block + m
    → length dealt ≤ rank (map r dealt) + m
wide-dealt r m block dealt f h l =
    let s : length (map r block) ≤ rank (map r dealt) =
    rank-spanned (map r dealt) (map r block) (all_span-from (map r dealt) r block (λ y t. Has-span r y dealt (h y t))) f in
    omega (arith, length-map block r)
