-- The line of one entry of a unitary.
--   entry_line  its five numbers, a space between two, and a line break
use Rattle.std.specs.Prelude.{ℕ, List, [], ◌∷◌, ◌++◌, decimal}
use Rattle.std.specs.Fmt.{signed_decimal}
use Rattle.route_report.specs.declared.entries.Entry.{Entry}

abbrev pub entry_line : Entry → List ℕ
entry_line x = signed_decimal x.a ++ 32 ∷ (signed_decimal x.b ++ 32 ∷ (signed_decimal x.c ++ 32 ∷ (signed_decimal x.d ++ 32 ∷ (decimal x.e ++ 10 ∷ []))))
