use Rattle.std.proofs.Common.{◌∙◌}
use Rattle.qasm_writer.specs.Texts.{with_underscores}
use Rattle.qasm_writer.proofs.LineLaws.{reads_enough, register_reads-split}
use Rattle.qasm_writer.proofs.PieceLaws.{Leads-more, Leads-stop, on_err}
use Rattle.qasm_writer.proofs.lines.put_reads.Goals as goal

pub returns-in_err-put_register_reads-clause-err : goal.returns-in_err-put_register_reads-clause-err
returns-in_err-put_register_reads-clause-err g c =
    on_err _ _ (Leads-stop _ _ _ _ _ _ _ _ _ c.registers.invariant.leads
    (register_reads-split (with_underscores c.args.q) c.args.registers.now c.registers.rest.now _ _ c.registers.register-index _ c.registers-test.true c.split_at.ensures.front c.split_at.ensures.back) c.in_err-put_register_reads.ensures.err)

pub registers-preserved : goal.registers-preserved
registers-preserved g c = record {
  leads = Leads-more _ _ _ _ _ _ _ _ _ _ c.registers.invariant.leads
      (register_reads-split (with_underscores c.args.q) c.args.registers.now c.registers.rest.now _ _ c.registers.register-index _ c.registers-test.true c.split_at.ensures.front c.split_at.ensures.back) c.in_ok-put_register_reads.ensures.ok;
  calm = c.in_ok-put_register_reads.ensures.cause.ok ∙ c.registers.invariant.calm;
  enough = reads_enough c.args.registers.now c.registers.rest.now _ c.registers.register-index _ c.registers-test.true
      c.registers.invariant.enough c.split_at.ensures.back;
}
