-- The walk begins, goes on, and ends.
use Rattle.std.proofs.Common.{◌∙◌, ap, arith}
use Rattle.path_parity.specs.PathSum.{own_labels}
use Rattle.rotation_merge.proofs.RunLaws.{gathering-start, gathering-more, gathering-end}
use Rattle.rotation_merge.proofs.gathered.Goals as goal

pub gates-init : goal.gates-init
gates-init c = gathering-start c.args.body.now.wires c.args.body.now.gates c.in_ok-walk.walk c.new-totals.result
    (record {
      wires = c.in_ok-walk.ensures.wires ∙ c.wires.ensures.wires;
      labels = c.in_ok-walk.ensures.labels ∙ ap own_labels c.wires.ensures.wires;
      unused = c.in_ok-walk.ensures.unused ∙ c.wires.ensures.wires;
    })
    c.new-totals.ensures.none c.new-totals.ensures.notes c.new-totals.ensures.constant

pub gates-preserved : goal.gates-preserved
gates-preserved c = gathering-more c.args.body.now.wires c.args.body.now.gates c.gates.i c.gate-gate.result c.gates.walk c.pass.new.self c.gates.totals c.gather.new.self c.gate-gate.ensures.there
    (record { wires = c.in_ok-pass.ensures.wires; labels = c.in_ok-pass.ensures.labels; unused = c.in_ok-pass.ensures.unused })
    c.in_ok-gather.ensures.gathers c.in_ok-gather.ensures.noted c.gates.invariant

pub returns-clause-totals : goal.returns-clause-totals
returns-clause-totals c = (gathering-end c.args.body.now.wires c.args.body.now.gates c.gates.i c.gates.walk c.gates.totals (omega arith) c.gates.invariant).0

pub returns-clause-constant : goal.returns-clause-constant
returns-clause-constant c = (gathering-end c.args.body.now.wires c.args.body.now.gates c.gates.i c.gates.walk c.gates.totals (omega arith) c.gates.invariant).1

pub returns-clause-noted : goal.returns-clause-noted
returns-clause-noted c = (gathering-end c.args.body.now.wires c.args.body.now.gates c.gates.i c.gates.walk c.gates.totals (omega arith) c.gates.invariant).2
