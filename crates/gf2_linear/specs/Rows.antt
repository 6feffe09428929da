-- Rows over the field of two elements. A row is a set of wires: the number whose bit w is set for each wire w
-- of the set. So the sum modulo 2 of two rows is `bit_xor`, and the row without wires is 0.
--   row_sum rows           the sum modulo 2 of rows
--   choices rows           every choice among the rows, each in the order of the rows, the empty one first
--   is_sum rows v          some choice sums to v
--   is_dependence rows     rows, at least one, that sum to 0
--   is_independent rows    no nonempty choice sums to 0
--   longest lists          the length of the longest list
--   rank rows              how many rows an independent choice of them has at most
--   rows_at rows places    the rows that stand at the places
--   combined rows set      the sum of the rows whose places are in a set of places, which is a number as a row is
--   places_in n set        the numbers below n that are in a set, ascending
--   IsSumAt rows v places  the rows at these ascending places sum to v
--   IsLeast v w            w is the least wire of v
use Rattle.std.specs.Prelude.{◌≡◌, ℕ, zero, suc, ◌/◌, ◌%◌, ◌<◌, ◌==◌, cond, Bool, false, not, List, [], ◌∷◌, ◌++◌, map, filter, max, length, slice_index, bit_xor}
use Rattle.std.specs.List.{list_any}
use Rattle.std.specs.Int.{bit_at}

unfoldable pub row_sum : List ℕ → ℕ
row_sum [] = 0
row_sum (r ∷ rows) = bit_xor r (row_sum rows)

unfoldable pub choices : List ℕ → List (List ℕ)
choices [] = [] ∷ []
choices (r ∷ rows) = choices rows ++ map (λ c. r ∷ c) (choices rows)

unfoldable pub is_sum : List ℕ → ℕ → Bool
is_sum rows v = list_any (λ c. row_sum c == v) (choices rows)

unfoldable pub is_dependence : List ℕ → Bool
is_dependence [] = false
is_dependence (r ∷ rows) = row_sum (r ∷ rows) == 0

unfoldable pub is_independent : List ℕ → Bool
is_independent rows = not (list_any is_dependence (choices rows))

unfoldable pub longest : List (List ℕ) → ℕ
longest [] = 0
longest (c ∷ lists) = max (length c) (longest lists)

unfoldable pub rank : List ℕ → ℕ
rank rows = longest (filter is_independent (choices rows))

unfoldable pub rows_at : List ℕ → List ℕ → List ℕ
rows_at rows places = map (slice_index rows) places

unfoldable pub combined : List ℕ → ℕ → ℕ
combined [] set = 0
combined (r ∷ rows) set = bit_xor (cond (set % 2 == 1) r 0) (combined rows (set / 2))

abbrev pub places_in : ℕ → ℕ → List ℕ
places_in zero set = []
places_in (suc n) set = places_in n set ++ cond (bit_at set n == 1) (n ∷ []) []

pub record IsSumAt (rows : List ℕ) (v : ℕ) (places : List ℕ) : Type 0 where
  pub within : (j : ℕ) → j < length places → slice_index places j < length rows
  pub ascending : (j k : ℕ) → j < k → k < length places → slice_index places j < slice_index places k
  pub sum : row_sum (rows_at rows places) ≡ v

pub record IsLeast (v w : ℕ) : Type 0 where
  pub within : w < 256
  pub there : bit_at v w ≡ 1
  pub least : (i : ℕ) → i < w → bit_at v i ≡ 0
