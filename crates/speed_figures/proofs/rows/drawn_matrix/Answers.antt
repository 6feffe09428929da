use Rattle.std.proofs.Common.{◌∙◌, length, ap}
use Rattle.gf2_linear.proofs.RunLaws.{length-added}
use Rattle.speed_figures.proofs.rows.drawn_matrix.Goals as goal

pub additions-preserved : goal.additions-preserved
additions-preserved c = ap length c.add.ensures.new ∙ length-added _ _ ∙ c.additions.invariant
