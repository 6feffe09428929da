-- The lengths of the first parts.
use Rattle.std.proofs.Common.{◌≡◌, length, map, take}
use Rattle.circuit_target.proofs.parts.lengths_of.Given as goal

abbrev pub invariant-parts : goal.invariant-parts
invariant-parts l = l.lengths.items ≡ map (λ m. length m.body.gates) (take l.part-index l.made)
