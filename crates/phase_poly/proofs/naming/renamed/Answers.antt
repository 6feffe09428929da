use Rattle.std.proofs.Common.{length}
use Rattle.circuit_list.specs.declared.Gate.TheVariants.{H}
use Rattle.phase_poly.proofs.NamingLaws.{renamed-more}
use Rattle.phase_poly.proofs.TermLaws.{dihedral-at}
use Rattle.phase_poly.proofs.naming.renamed.Goals as goal

pub name-requires-clause-dihedral : goal.name-requires-clause-dihedral
name-requires-clause-dihedral c = dihedral-at (length c.args.names.now) c.args.gates.now c.renamed.g-index (H 0) c.renamed-test.true c.requires.dihedral

pub renamed-preserved : goal.renamed-preserved
renamed-preserved c = renamed-more c.args.names.now c.args.gates.now c.renamed.list.items c.push.new.self.items c.renamed.g-index (H 0) c.name.result c.renamed-test.true c.renamed.invariant c.name.ensures c.in_ok-push.ensures.items
