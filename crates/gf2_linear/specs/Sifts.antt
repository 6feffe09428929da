-- Working form. Rows put into a basis where they are no sum of those before them, and the other rows.
--   IsSifted rows basis left   each row is in the basis or left, and the basis is independent and as many as the rank
use Rattle.std.specs.Prelude.{◌≡◌, ℕ, true, ◌+◌, List, length}
use Rattle.gf2_linear.specs.Rows.{is_independent, rank}
use Rattle.gf2_linear.specs.Wide.{count_of}

pub record IsSifted (rows basis left : List ℕ) : Type 0 where
  pub free : is_independent basis ≡ true
  pub rank : length basis ≡ rank rows
  pub long : length basis + length left ≡ length rows
  pub among : (v : ℕ) → count_of v rows ≡ count_of v basis + count_of v left
