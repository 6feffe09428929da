-- The first wires are these, renamed.
use Rattle.std.proofs.Common.{◌≡◌, ◌<◌, ℕ, get_or, map}
use Rattle.gate_library.specs.Operands.{wire_at as wire_there}
use Rattle.gate_inline.specs.Renaming.{renamed}
use Rattle.gate_inline.proofs.renaming.is_renaming.Given as goal

abbrev pub invariant-wires : goal.invariant-wires
invariant-wires l = let to = map (wire_there l.j) l.places in (k : ℕ) → k < l.i → renamed l.from to (get_or l.from k 0) ≡ get_or to k 0
