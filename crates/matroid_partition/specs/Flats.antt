-- Working form. Rows that lie in one span.
--   IsFlat rows f     the ascending places of some of the rows, each a sum of the basis
use Rattle.std.specs.Prelude.{◌≡◌, ℕ, ◌<◌, List, All, true, length, slice_index}
use Rattle.std.specs.List.Sorted.{IsStrictlyIncreasing}
use Rattle.gf2_linear.specs.Rows.{is_sum}
use Rattle.matroid_partition.specs.declared.flat.Flat.{Flat}

pub record IsFlat (rows : List ℕ) (f : Flat) : Type 0 where
  pub within : All (λ i. i < length rows) f.places.items
  pub ascending : IsStrictlyIncreasing f.places.items
  pub spanned : All (λ i. is_sum f.basis (slice_index rows i) ≡ true) f.places.items
