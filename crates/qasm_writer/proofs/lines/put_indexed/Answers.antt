use Rattle.qasm_writer.proofs.PieceLaws.{fault-now, on_err, then-err, then-ok}
use Rattle.qasm_writer.proofs.lines.put_indexed.Goals as goal

pub returns-in_err-put_bytes-clause-err : goal.returns-in_err-put_bytes-clause-err
returns-in_err-put_bytes-clause-err g c =
    on_err _ _ (fault-now _ _ c.args.buffer.now c.args.name.now _ c.in_err-put_bytes.ensures.err)

pub returns-clause-ok : goal.returns-clause-ok
returns-clause-ok g c = then-ok _ _ _ _ _ _ _ _ _ c.in_ok-put_bytes.ensures.ok c.put_place.ensures.ok

pub returns-clause-err : goal.returns-clause-err
returns-clause-err g c = then-err _ _ _ _ _ _ _ _ c.in_ok-put_bytes.ensures.ok c.put_place.ensures.err
