-- The swaps so far, with those from here on, are all.
use Rattle.std.proofs.Common.{◌≡◌, ◌+◌, drop}
use Rattle.std.specs.Prelude.{sum_by}
use Rattle.circuit_target.proofs.parts.swaps_of.Given as goal

abbrev pub invariant-parts : goal.invariant-parts
invariant-parts l = l.swaps + sum_by (λ m. m.swaps) (drop l.part-index l.made) ≡ sum_by (λ m. m.swaps) l.made
