-- Where the X of a circuit stand.
--   XLast gs    each X is the last gate on its wire, so each wire has one at most
use Rattle.std.specs.Prelude.{◌≡◌, ℕ, List, Some, slice_get}
use Rattle.circuit_list.specs.declared.Gate.{Gate}
use Rattle.circuit_list.specs.declared.Gate.TheVariants.{X}
use Rattle.circuit_list.specs.Slots.{NoneBehind}

abbrev pub XLast : List Gate → Type 0
XLast gs = (i q : ℕ) → slice_get gs i ≡ Some (X q) → NoneBehind q gs i
