use Rattle.std.proofs.Common.{◌≡◌, take}
use Rattle.gf2_linear.proofs.sums.is_independent.Given as goal

abbrev pub invariant-rows : goal.invariant-rows
invariant-rows l = l.basis ≡ take l.row-index l.rows
