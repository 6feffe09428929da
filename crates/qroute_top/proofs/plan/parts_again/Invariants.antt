-- The first placements once more.
use Rattle.std.proofs.Common.{◌≡◌, take}
use Rattle.qroute_top.proofs.plan.parts_again.Given as goal

abbrev pub invariant-barriers : goal.invariant-barriers
invariant-barriers l = l.between.items ≡ take l.placement-index l.parts.between
