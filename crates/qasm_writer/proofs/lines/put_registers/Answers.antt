use Rattle.std.proofs.Common.{◌∙◌}
use Rattle.qasm_writer.proofs.LineLaws.{registers-next}
use Rattle.qasm_writer.proofs.PieceLaws.{Leads-more, Leads-stop, on_err}
use Rattle.qasm_writer.proofs.lines.put_registers.Goals as goal

pub returns-in_err-put_register-clause-err : goal.returns-in_err-put_register-clause-err
returns-in_err-put_register-clause-err g c =
    on_err _ _ (Leads-stop _ _ _ _ _ _ _ _ _ c.registers.invariant.leads
    (registers-next c.args.registers.now c.registers.i _ c.registers-test.true) c.in_err-put_register.ensures.err)

pub registers-preserved : goal.registers-preserved
registers-preserved g c = record {
  leads = Leads-more _ _ _ _ _ _ _ _ _ _ c.registers.invariant.leads
      (registers-next c.args.registers.now c.registers.i _ c.registers-test.true) c.in_ok-put_register.ensures.ok;
  calm = c.in_ok-put_register.ensures.cause.ok ∙ c.registers.invariant.calm;
}
