use Rattle.std.proofs.Common.{◌≡◌, take}
use Rattle.gf2_linear.specs.Rows.{rows_at}
use Rattle.layer_stages.proofs.stage.rows_at.Given as goal

abbrev pub invariant-places : goal.invariant-places
invariant-places l = l.chosen.items ≡ rows_at l.rows (take l.place-index l.places)
