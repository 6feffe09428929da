use Rattle.trace_check.proofs.WrittenLaws.{grows-all, grows-next, grows-none}
use Rattle.trace_check.proofs.routing.all_appended.Goals as goal

pub gates-init : goal.gates-init
gates-init c = grows-none c.args.goal.now.gates c.args.agreed

pub gates-preserved : goal.gates-preserved
gates-preserved c = grows-next c.args.goal.now.gates c.args.gates.now c.args.agreed c.gates.now c.appended-now.result c.gates.place _ c.gates-test.true c.gates.invariant c.appended-now.ensures

pub returns : goal.returns
returns c = grows-all c.args.goal.now.gates c.args.gates.now c.args.agreed c.gates.now c.gates.place c.gates-test.false c.gates.invariant
