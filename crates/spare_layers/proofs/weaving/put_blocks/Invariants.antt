-- The list so far is woven of the blocks so far.
use Rattle.std.proofs.Common.{map, take}
use Rattle.phase_poly.specs.Resynthesis.{picked}
use Rattle.spare_layers.specs.Weaving.{IsWide, IsWoven}
use Rattle.spare_layers.proofs.weaving.put_blocks.Given as goal

abbrev pub invariant-parts : goal.invariant-parts
invariant-parts l = record {
  wide : IsWide l.wires l.spares l.held.items;
  woven : IsWoven l.wires l.spares l.block-index l.gates.items l.held.items (picked l.terms (take l.block-index (map (λ b. b.items) l.blocks)));
}
