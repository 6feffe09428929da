-- Working form.
--     wires_in h    the wires of a list, which is its own or one that copies have too
use Rattle.std.specs.Prelude.{ℕ, List}
use Rattle.route_report.specs.declared.wires.Held.{Held}
use Rattle.route_report.specs.declared.wires.Held.TheVariants.{Own, Shared}

abbrev pub wires_in : Held → List ℕ
wires_in (Own list) = list.items
wires_in (Shared list) = list.value.items
