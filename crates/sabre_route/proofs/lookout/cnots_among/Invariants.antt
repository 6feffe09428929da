use Rattle.std.proofs.Common.{◌≡◌, take}
use Rattle.sabre_route.specs.Ahead.{cx_only}
use Rattle.sabre_route.proofs.lookout.cnots_among.Given as goal

abbrev pub invariant-gates : goal.invariant-gates
invariant-gates l = l.cnots.items ≡ cx_only (take l.gate-index l.gates)
