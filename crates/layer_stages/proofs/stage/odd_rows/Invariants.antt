use Rattle.std.proofs.Common.{◌≡◌, take}
use Rattle.layer_stages.specs.Stages.{odd_rows}
use Rattle.layer_stages.proofs.stage.odd_rows.Given as goal

abbrev pub invariant-terms : goal.invariant-terms
invariant-terms l = l.rows.items ≡ odd_rows (take l.term-index l.terms)
