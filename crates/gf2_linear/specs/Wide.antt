-- Rows on wires and spares: more rows than wires, whose rank is the number of wires.
--   count_of v rows        how often the row v stands among rows
--   StandAmong all rows    each row stands among all the rows at least as often as it is given
--   below w rows           the rows without the wires from w on
use Rattle.std.specs.Prelude.{ℕ, ◌+◌, ◌^◌, ◌%◌, ◌≤◌, List, [], ◌∷◌, cond, map, nat_eq}

abbrev pub count_of : ℕ → List ℕ → ℕ
count_of v [] = 0
count_of v (r ∷ rows) = cond (nat_eq r v) 1 0 + count_of v rows

abbrev pub StandAmong : List ℕ → List ℕ → Type 0
StandAmong all rows = (v : ℕ) → count_of v rows ≤ count_of v all

unfoldable pub below : ℕ → List ℕ → List ℕ
below w rows = map (λ r. r % 2 ^ w) rows
