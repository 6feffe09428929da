use Rattle.std.proofs.Common.{◌≡◌, [], ◌∷◌, ◌++◌, slice_index_or, arith}
use Rattle.std.proofs.lemmas.Grind.{common_steps}
use Rattle.layer_stages.specs.Stages.{odd_rows}
use Rattle.layer_stages.proofs.StageLaws.{odd_rows-more}
use Rattle.layer_stages.proofs.stage.odd_rows.Goals as goal

pub terms-preserved : goal.terms-preserved
terms-preserved c =
    let kept : c.keep_odd.new.rows.items ≡ c.terms.rows.items ++ odd_rows (slice_index_or c.args.terms.now c.terms.term-index (0, 0) ∷ []) = grind (arith, common_steps) in
    odd_rows-more c.args.terms.now c.terms.term-index (0, 0) c.terms.rows.items c.keep_odd.new.rows.items c.terms-test.true c.terms.invariant kept
