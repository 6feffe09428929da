use Rattle.std.proofs.lemmas.Bool.{both_ways}
use Rattle.phase_poly.proofs.NamingLaws.{mark-there, mark-kept}
use Rattle.phase_poly.proofs.naming.mark.Goals as goal

pub returns-clause-marked : goal.returns-clause-marked
returns-clause-marked c = mark-there c.args.set.now c.flip.new.self c.args.q c.flip.ensures.new (λ e. both_ways c.has.result c.if-has.false (c.has.ensures.value.1 e))

pub returns-clause-kept : goal.returns-clause-kept
returns-clause-kept c = mark-kept c.args.set.now c.flip.new.self c.args.q c.flip.ensures.new (λ e. both_ways c.has.result c.if-has.false (c.has.ensures.value.1 e))
