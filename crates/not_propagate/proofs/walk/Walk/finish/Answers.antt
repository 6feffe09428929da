-- One wire more.
use Rattle.std.proofs.Common.{◌∙◌, ap, arith}
use Rattle.circuit_list.specs.Body.{Body}
use Rattle.not_propagate.proofs.EndLaws.{more_x, more_none}
use Rattle.not_propagate.proofs.walk.Walk.finish.Goals as goal
use Rattle.not_propagate.proofs.walk.Walk.finish.Goals.{then-index+in_ok-push, else-index}

pub wires-preserved : goal.wires-preserved
wires-preserved c =
    let known = c.wires.invariant in
    elim c.if-index.branch [
      | then-index+in_ok-push w ↦ record {
        wires = ap (λ (b : Body). b.wires) w.written-is ∙ w.push.ensures.wires ∙ known.wires;
        gates = more_x c.args.self.written.gates c.wires.written.gates c.if-index.written.gates c.args.self.flags.items c.wires.q c.index.result.now
            (omega arith) c.index.ensures w.if-index.true known.gates (ap (λ (b : Body). b.gates) w.written-is ∙ w.in_ok-push.ensures.gates);
      }
      | else-index w ↦ record {
        wires = ap (λ (b : Body). b.wires) w.written-is ∙ known.wires;
        gates = more_none c.args.self.written.gates c.wires.written.gates c.if-index.written.gates c.args.self.flags.items c.wires.q c.index.result.now
            (omega arith) c.index.ensures w.if-index.false known.gates (ap (λ (b : Body). b.gates) w.written-is);
      }
    ]
