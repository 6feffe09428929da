-- From no gate to all.
use Rattle.std.proofs.Common.{arith}
use Rattle.std.specs.Prelude.{nat_eq}
use Rattle.indexmap.specs.IndexSet.{insert_all}
use Rattle.path_sums.specs.Names.{wires_touched}
use Rattle.path_sums.proofs.TouchedLaws.{touch-end, touch-more}
use Rattle.path_sums.proofs.touched.touch_wires.Goals as goal

pub gates-preserved : goal.gates-preserved
gates-preserved c = touch-more c.args.body.now.gates c.gates.place c.gate.result c.gates.touched.keys c.touch.new.touched.keys
    (insert_all nat_eq c.args.touched.now.keys (wires_touched c.args.body.now.gates)) c.gate.ensures.there c.in_ok-touch.ensures c.gates.invariant

pub returns : goal.returns
returns c = touch-end c.args.body.now.gates c.gates.place c.gates.touched.keys (insert_all nat_eq c.args.touched.now.keys (wires_touched c.args.body.now.gates)) (omega arith) c.gates.invariant
