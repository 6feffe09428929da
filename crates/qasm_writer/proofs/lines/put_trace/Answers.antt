use Rattle.std.proofs.Common.{◌∙◌}
use Rattle.qasm_writer.proofs.CommentLaws.{commented-next}
use Rattle.qasm_writer.proofs.PieceLaws.{Leads-more, Leads-stop, on_err}
use Rattle.qasm_writer.proofs.lines.put_trace.Goals as goal

pub returns-in_err-put_comment-clause-err : goal.returns-in_err-put_comment-clause-err
returns-in_err-put_comment-clause-err g c =
    on_err _ _ (Leads-stop _ _ _ _ _ _ _ _ _ c.lines.invariant.leads
    (commented-next c.lines.rest.now c.in-Some.line.now c.in-Some.behind.now c.in-Some.ensures.lines) c.in_err-put_comment.ensures.err)

pub lines-preserved : goal.lines-preserved
lines-preserved g c = record {
  leads = Leads-more _ _ _ _ _ _ _ _ _ _ c.lines.invariant.leads
      (commented-next c.lines.rest.now c.in-Some.line.now c.in-Some.behind.now c.in-Some.ensures.lines) c.in_ok-put_comment.ensures.ok;
  calm = c.in_ok-put_comment.ensures.cause.ok ∙ c.lines.invariant.calm;
}
