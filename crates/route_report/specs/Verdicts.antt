-- The line of a trace that was verified.
--   verdict_line  yes, the global phase in units of pi/4, and a line break
use Rattle.std.specs.Prelude.{ℕ, List, [], ◌∷◌, ◌++◌, codes, decimal}

abbrev pub verdict_line : ℕ → List ℕ
verdict_line phase = codes "yes " ++ (decimal phase ++ 10 ∷ [])
