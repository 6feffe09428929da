use Rattle.std.proofs.Common.{◌∙◌}
use Rattle.qasm_writer.specs.Texts.{with_underscores}
use Rattle.qasm_writer.proofs.LineLaws.{reads-next}
use Rattle.qasm_writer.proofs.PieceLaws.{Leads-more, Leads-stop, on_err}
use Rattle.qasm_writer.proofs.lines.put_register_reads.Goals as goal

pub returns-in_err-put_read-clause-err : goal.returns-in_err-put_read-clause-err
returns-in_err-put_read-clause-err g c =
    on_err _ _ (Leads-stop _ _ _ _ _ _ _ _ _ c.reads.invariant.leads
    (reads-next (with_underscores c.args.q) c.args.name.now c.args.reads.now c.reads.bit _ c.reads-test.true) c.in_err-put_read.ensures.err)

pub reads-preserved : goal.reads-preserved
reads-preserved g c = record {
  leads = Leads-more _ _ _ _ _ _ _ _ _ _ c.reads.invariant.leads
      (reads-next (with_underscores c.args.q) c.args.name.now c.args.reads.now c.reads.bit _ c.reads-test.true) c.in_ok-put_read.ensures.ok;
  calm = c.in_ok-put_read.ensures.cause.ok ∙ c.reads.invariant.calm;
}
