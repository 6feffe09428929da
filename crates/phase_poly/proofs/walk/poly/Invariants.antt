-- The polynomial so far is that of the first gates.
use Rattle.std.proofs.Common.{◌≡◌, take}
use Rattle.phase_poly.specs.Polys.{first_poly, polyed_all}
use Rattle.phase_poly.proofs.walk.poly.Given as goal

abbrev pub invariant-gates : goal.invariant-gates
invariant-gates l = l.walk ≡ polyed_all (take l.g-index l.list) (first_poly l.wires)
