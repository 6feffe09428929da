-- Working form. A basis: independent rows, kept by entries from which any row can be told as a sum of them.
--   Lack w entries         no entry has the wire w
--   IsEchelon entries      each entry has its pivot, and no later entry has it
--   rows_of, pivots_of     the rows of the entries, and their pivots
--   AreTold, AreSums       the entries are sums of the rows, and the rows of the entries
--   AreFree rows           no row is a sum of rows behind it
--   IsBasis rows entries   what a basis keeps
--   Clears i entries v     v lacks the pivots of the first i entries
--   IsRemainder entries v r   what is left of v once it is reduced by the entries
use Rattle.std.specs.Prelude.{◌≡◌, ℕ, zero, suc, ◌<◌, ◌^◌, true, false, List, [], ◌∷◌, length, slice_index, bit_xor}
use Rattle.std.specs.Int.{bit_at}
use Rattle.gf2_linear.specs.declared.bases.Entry.{Entry}
use Rattle.gf2_linear.specs.declared.bases.Remainder.{Remainder}
use Rattle.gf2_linear.specs.Rows.{combined, is_sum}
use Rattle.gf2_linear.specs.Completions.{ArePivots}

-- the entries lack a wire
abbrev pub Lack : ℕ → List Entry → Type 0
Lack w [] = Unit {0}
Lack w (e ∷ entries) = (bit_at e.row w ≡ 0) × Lack w entries

abbrev pub IsEchelon : List Entry → Type 0
IsEchelon [] = Unit {0}
IsEchelon (e ∷ entries) = (e.pivot < 256) × (bit_at e.row e.pivot ≡ 1) × Lack e.pivot entries × IsEchelon entries

abbrev pub rows_of : List Entry → List ℕ
rows_of [] = []
rows_of (e ∷ entries) = e.row ∷ rows_of entries

abbrev pub pivots_of : List Entry → List ℕ
pivots_of [] = []
pivots_of (e ∷ entries) = e.pivot ∷ pivots_of entries

-- each entry is the sum of the rows in its set
abbrev pub AreTold : List ℕ → List Entry → Type 0
AreTold rows [] = Unit {0}
AreTold rows (e ∷ entries) = (e.row ≡ combined rows e.members) × (e.members < 2 ^ length rows) × AreTold rows entries

-- each of the rows is a sum of the entries
abbrev pub AreSums : List Entry → List ℕ → Type 0
AreSums entries [] = Unit {0}
AreSums entries (r ∷ rows) = (is_sum (rows_of entries) r ≡ true) × AreSums entries rows

abbrev pub AreFree : List ℕ → Type 0
AreFree [] = Unit {0}
AreFree (r ∷ rows) = (is_sum rows r ≡ false) × AreFree rows

pub record IsBasis (rows : List ℕ) (entries : List Entry) : Type 0 where
  pub echelon : IsEchelon entries
  pub told : AreTold rows entries
  pub sums : AreSums entries rows
  pub free : AreFree rows
  pub pivots : ArePivots rows (pivots_of entries)
  pub below : (k : ℕ) → slice_index rows k < 2 ^ 256

-- v lacks the pivots of the first i entries
abbrev pub Clears : ℕ → List Entry → ℕ → Type 0
Clears zero entries v = Unit {0}
Clears (suc i) [] v = Unit {0}
Clears (suc i) (e ∷ entries) v = (bit_at v e.pivot ≡ 0) × Clears i entries v

pub record IsRemainder (entries : List Entry) (v : ℕ) (r : Remainder) : Type 0 where
  pub given : v < 2 ^ 256
  pub told : (rows : List ℕ) → AreTold rows entries → r.left ≡ bit_xor v (combined rows r.members)
  pub within : (rows : List ℕ) → AreTold rows entries → r.members < 2 ^ length rows
  pub clears : Clears (length entries) entries r.left
