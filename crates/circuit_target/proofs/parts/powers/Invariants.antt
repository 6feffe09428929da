-- The turns of the first parts.
use Rattle.std.proofs.Common.{◌≡◌, map, take}
use Rattle.circuit_target.proofs.parts.powers.Given as goal

abbrev pub invariant-parts : goal.invariant-parts
invariant-parts l = l.powers.items ≡ map (λ m. m.turn) (take l.part-index l.made)
