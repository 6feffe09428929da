-- Independent rows completed to a square matrix.
--   IsPivot earlier pivots row pivot   the row, plus some of the earlier rows, lacks their pivots, and its least wire is then the pivot
--   ArePivots rows pivots              each row in order has its pivot, told by the rows before it
--   IsPivotOf rows place pivot         the row at the place has this pivot
--   IsCompletion rows wires matrix     each row stands on its pivot, and every other wire has itself alone
use Rattle.std.specs.Prelude.{◌≡◌, ℕ, ◌<◌, ◌^◌, true, List, length, take, slice_index, bit_xor}
use Rattle.std.specs.Int.{bit_at}
use Rattle.gf2_linear.specs.Rows.{is_sum, IsLeast}

-- what is left of the row when some of the earlier rows are added to it
pub record IsPivot (earlier pivots : List ℕ) (row pivot : ℕ) : Type 0 where
  pub left : ℕ
  pub sum : is_sum earlier (bit_xor row left) ≡ true
  pub lacks : (i : ℕ) → i < length pivots → bit_at left (slice_index pivots i) ≡ 0
  pub least : IsLeast left pivot

pub record ArePivots (rows pivots : List ℕ) : Type 0 where
  pub long : length pivots ≡ length rows
  pub each : (j : ℕ) → j < length rows → IsPivot (take j rows) (take j pivots) (slice_index rows j) (slice_index pivots j)

pub record IsPivotOf (rows : List ℕ) (place pivot : ℕ) : Type 0 where
  pub pivots : List ℕ
  pub found : ArePivots rows pivots
  pub there : slice_index pivots place ≡ pivot

pub record IsCompletion (rows : List ℕ) (wires : ℕ) (matrix : List ℕ) : Type 0 where
  pub pivots : List ℕ
  pub found : ArePivots rows pivots
  pub long : length matrix ≡ wires
  pub within : (j : ℕ) → j < length rows → slice_index pivots j < wires
  pub there : (j : ℕ) → j < length rows → slice_index matrix (slice_index pivots j) ≡ slice_index rows j
  pub other : (w : ℕ) → w < wires → ((j : ℕ) → j < length rows → slice_index pivots j ≡ w → ⊥) → slice_index matrix w ≡ 2 ^ w
