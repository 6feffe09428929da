use Rattle.std.proofs.Common.{◌∙◌}
use Rattle.qasm_writer.specs.Texts.{with_underscores}
use Rattle.qasm_writer.proofs.LineLaws.{gates-next}
use Rattle.qasm_writer.proofs.PieceLaws.{Leads-more, Leads-stop, on_err}
use Rattle.qasm_writer.proofs.lines.put_gates.Goals as goal

pub returns-in_err-put_gate-clause-err : goal.returns-in_err-put_gate-clause-err
returns-in_err-put_gate-clause-err g c =
    on_err _ _ (Leads-stop _ _ _ _ _ _ _ _ _ c.gates.invariant.leads
    (gates-next (with_underscores c.args.q) c.args.body.now.gates c.gates.i c.args.to c.gate.result c.gates-test.true c.gate.ensures.there) c.in_err-put_gate.ensures.err)

pub gates-preserved : goal.gates-preserved
gates-preserved g c = record {
  leads = Leads-more _ _ _ _ _ _ _ _ _ _ c.gates.invariant.leads
      (gates-next (with_underscores c.args.q) c.args.body.now.gates c.gates.i c.args.to c.gate.result c.gates-test.true c.gate.ensures.there) c.in_ok-put_gate.ensures.ok;
  calm = c.in_ok-put_gate.ensures.cause.ok ∙ c.gates.invariant.calm;
}
