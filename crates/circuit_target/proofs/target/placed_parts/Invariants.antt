-- The first parts after all passes.
use Rattle.std.proofs.Common.{map, take}
use Rattle.std.specs.List.{AllZip}
use Rattle.circuit_target.specs.Making.{IsPlacedPart}
use Rattle.circuit_target.proofs.target.placed_parts.Given as goal

abbrev pub invariant-parts : goal.invariant-parts
invariant-parts l = AllZip (IsPlacedPart l.source.wires) (take l.part-index (map (λ o. o.list) l.parts)) l.made.items
