-- Blocks without spares: those with no more rows than their rank are the independent ones.
--   free-or-spanned      rows are independent, or fewer span them
--   independent-wide, wide-independent   rows are independent exactly where they are no more than their rank
--   plain-spare, spare-plain   a partition into independent blocks is one without spares, and the other way round
--   plain-witness        a witness of the one is one of the other
use Rattle.std.proofs.Common.{◌≡◌, ℕ, ◌+◌, ◌-◌, ◌*◌, ◌<◌, ◌≤◌, ◌⊎◌, inl, inr, true, IsTrue, List, [], ◌∷◌, length, slice_index, refl, sym, subst, arith}
use Rattle.std.proofs.lemmas.Bool.{both_ways, cases_Bool}
use Rattle.std.proofs.lemmas.List.{length-map}
use Rattle.std.proofs.lemmas.List.Elements.{All-weaker}
use Rattle.gf2_linear.specs.Rows.{is_independent, is_sum, rank, rows_at}
use Rattle.gf2_linear.proofs.Ranks.{Choice, is_sum-spanned, Span-is_sum, independent-Free, Free-independent, rank-below, rank-least}
use Rattle.gf2_linear.proofs.Spans.{All_span, Free, Span-first, All_span-more, All_span-self}
use Rattle.matroid_partition.specs.Partitions.{IsPartition, IsWitness}
use Rattle.matroid_partition.specs.Spares.{IsSparePartition, IsSpareWitness}

-- ---- rows
Choice-all : (rows : List ℕ) → Choice rows rows
Choice-all [] = refl
Choice-all (r ∷ rows) = inr (rows, refl, Choice-all rows)

free-or-spanned : (rows : List ℕ) → Free rows ⊎ ((b : List ℕ) × All_span b rows × (length b < length rows))
free-or-spanned [] = inl tt
free-or-spanned (r ∷ rows) = elim (free-or-spanned rows) [
  | inl f ↦ elim (cases_Bool (is_sum rows r)) [
    | inl t ↦ inr (rows, (is_sum-spanned rows r t, All_span-self rows), omega arith)
    | inr n ↦ inl ((λ s. both_ways (is_sum rows r) n (Span-is_sum rows r s)), f)
  ]
  | inr p ↦ inr (r ∷ p.0, (Span-first r p.0, All_span-more r p.0 rows p.1), omega (arith, p.2))
]

independent-wide : (rows : List ℕ) → is_independent rows ≡ true → length rows ≤ rank rows
independent-wide rows h = rank-least rows rows (Choice-all rows) (independent-Free rows h)

wide-independent : (rows : List ℕ) → length rows ≤ rank rows → is_independent rows ≡ true
wide-independent rows h = elim (free-or-spanned rows) [
  | inl f ↦ Free-independent rows f
  | inr p ↦ let l : rank rows ≤ length p.0 = rank-below p.0 rows p.1 in absurd (omega (arith, h, l, p.2))
]

-- ---- blocks
length-rows_at : (rows places : List ℕ) → length (rows_at rows places) ≡ length places
unfolding rows_at
length-rows_at rows places = length-map places (slice_index rows)

block-wide : (rows b : List ℕ) → is_independent (rows_at rows b) ≡ true → length b ≤ rank (rows_at rows b) + 0
block-wide rows b h = let l : length (rows_at rows b) ≤ rank (rows_at rows b) = independent-wide (rows_at rows b) h in omega (arith, length-rows_at rows b, l)

block-independent : (rows b : List ℕ) → length b ≤ rank (rows_at rows b) + 0 → is_independent (rows_at rows b) ≡ true
block-independent rows b h = wide-independent (rows_at rows b) (omega (arith, length-rows_at rows b, h))

pub plain-spare : (rows : List ℕ) (blocks : List (List ℕ)) → IsPartition rows blocks → IsSparePartition rows 0 blocks
plain-spare rows blocks p = record {
  once = p.once;
  within = p.within;
  wide = All-weaker (λ b. IsTrue (is_independent (rows_at rows b))) (λ b. length b ≤ rank (rows_at rows b) + 0) (block-wide rows) blocks p.independent;
}

pub spare-plain : (rows : List ℕ) (blocks : List (List ℕ)) → IsSparePartition rows 0 blocks → IsPartition rows blocks
spare-plain rows blocks p = record {
  once = p.once;
  within = p.within;
  independent = All-weaker (λ b. length b ≤ rank (rows_at rows b) + 0) (λ b. IsTrue (is_independent (rows_at rows b))) (block-independent rows) blocks p.wide;
}

pub plain-witness : (rows : List ℕ) (blocks : List (List ℕ)) (w : List ℕ) → IsWitness rows blocks w → IsSpareWitness rows 0 blocks w
plain-witness rows blocks w h = record {
  within = h.within;
  ascending = h.ascending;
  more = λ l. subst (λ k. (length blocks - 1) * k < length w) (sym (none (rank (rows_at rows w)))) (h.more l);
}
  where
    none : (k : ℕ) → k + 0 ≡ k
    none k = omega arith
