use Rattle.std.proofs.Common.{◌≡◌, length}
use Rattle.speed_figures.proofs.rows.drawn_matrix.Given as goal

abbrev pub invariant-additions : goal.invariant-additions
invariant-additions l = length l.matrix ≡ 64
