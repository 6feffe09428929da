use Rattle.std.proofs.Common.{◌≡◌, take}
use Rattle.phase_poly.specs.Resynthesis.{term_rows}
use Rattle.spare_layers.proofs.weaving.chosen.Given as goal

abbrev pub invariant-places : goal.invariant-places
invariant-places l = l.rows.items ≡ term_rows l.terms (take l.place-index l.block)
