use Rattle.circuit_list.specs.declared.Gate.TheVariants.{H}
use Rattle.phase_poly.proofs.NamingLaws.{marked-more, mark-requires}
use Rattle.phase_poly.proofs.naming.wires_of.Goals as goal

pub mark_gate-requires : goal.mark_gate-requires
mark_gate-requires c = mark-requires c.args.wires c.marked.g-index c.args.gates.now (H 0) c.requires.wires_limit c.marked-test.true c.requires.dihedral

pub marked-preserved : goal.marked-preserved
marked-preserved c = marked-more c.args.gates.now c.marked.g-index (H 0) c.marked.set c.mark_gate.new.set c.marked-test.true c.mark_gate.ensures.kept c.marked.invariant c.mark_gate.ensures.marked
