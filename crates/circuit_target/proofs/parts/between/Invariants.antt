-- Where the wires stand behind the first parts.
use Rattle.std.proofs.Common.{◌≡◌, map, take}
use Rattle.circuit_target.proofs.parts.between.Given as goal

abbrev pub invariant-parts : goal.invariant-parts
invariant-parts l = l.between.items ≡ map (λ m. m.last) (take l.place l.made)
