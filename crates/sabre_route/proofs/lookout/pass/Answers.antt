use Rattle.sabre_route.proofs.LookoutLaws.{passed-set}
use Rattle.sabre_route.proofs.lookout.pass.Goals as goal

pub returns : goal.returns
returns c = record { passed = λ g at. passed-set c.args.cnots.now c.args.later.now c.args.reach.now c.args.place _ g _ _ at c.wires_of-first.ensures.first c.wires_of-first.ensures.second c.requires.fine c.requires.links }
