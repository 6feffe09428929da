use Rattle.phase_poly.proofs.TermLaws.{filter-below}
use Rattle.phase_poly.proofs.walk.Walk.finish.Goals as goal

pub new-requires-clause-terms : goal.new-requires-clause-terms
new-requires-clause-terms c = filter-below c.self.inside.terms.entries c.in_ok-terms.terms.items c.in_ok-terms.ensures c.self.invariant.1
