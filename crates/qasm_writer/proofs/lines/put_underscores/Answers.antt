use Rattle.std.proofs.Common.{arith, ◌∙◌}
use Rattle.qasm_writer.proofs.LineLaws.{underscores-next}
use Rattle.qasm_writer.proofs.PieceLaws.{Leads-more, Leads-stop, on_err}
use Rattle.qasm_writer.proofs.lines.put_underscores.Goals as goal

pub returns-in_err-put_bytes-clause-err : goal.returns-in_err-put_bytes-clause-err
returns-in_err-put_bytes-clause-err g c =
    let most = c.min-some.ensures in
    on_err _ _ (Leads-stop _ _ _ _ _ _ _ _ _ c.underscores.invariant.leads
    (underscores-next c.underscores.left c.min-some.result (omega (arith, most)) (omega (arith, most))) c.in_err-put_bytes.ensures.err)

pub underscores-preserved : goal.underscores-preserved
underscores-preserved g c =
    let most = c.min-some.ensures in
    record {
      leads = Leads-more _ _ _ _ _ _ _ _ _ _ c.underscores.invariant.leads
          (underscores-next c.underscores.left c.min-some.result (omega (arith, most)) (omega (arith, most))) c.in_ok-put_bytes.ensures.ok;
      calm = c.in_ok-put_bytes.ensures.cause.ok ∙ c.underscores.invariant.calm;
    }
