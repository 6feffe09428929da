use Rattle.sabre_route.specs.Left.{AreHeadsFrom}
use Rattle.sabre_route.proofs.left.heads_of.Given as goal

abbrev pub invariant-gates : goal.invariant-gates
invariant-gates l = AreHeadsFrom l.place l.circuit l.heads.items
