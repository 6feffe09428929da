use Rattle.qasm_writer.proofs.PieceLaws.{Leads-fault, on_err}
use Rattle.qasm_writer.proofs.pieces.put_bytes.Goals as goal

pub returns-in_err-send_waiting-clause-err : goal.returns-in_err-send_waiting-clause-err
returns-in_err-send_waiting-clause-err g c = on_err _ _ (Leads-fault _ _ _ _ _ _ _ c.pieces.invariant.leads c.in_err-send_waiting.ensures.err)
