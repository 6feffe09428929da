-- The lines of one gate's body more.
use Rattle.std.proofs.Common.{arith}
use Rattle.linear_forms.specs.Lines.{gate_body}
use Rattle.linear_forms.proofs.FormLaws.{bodies_more}
use Rattle.linear_forms.proofs.line.bodies_of.Goals as goal

pub gates-preserved : goal.gates-preserved
gates-preserved c =
    bodies_more (λ b. b.items) gate_body c.gates.list.items c.push.new.self.items c.args.gates.now c.gates.gate-index c.in_ok-lines.lines c.gate-item.result
    c.in_ok-push.ensures.items c.gates.invariant c.in_ok-lines.ensures (omega arith) c.gate-item.is
