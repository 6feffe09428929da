use Rattle.std.proofs.Common.{codes}
use Rattle.qasm_writer.specs.Texts.{index_text, with_underscores}
use Rattle.qasm_writer.proofs.PieceLaws.{fault-now, fault-then, on_err, then-err, then-ok}
use Rattle.qasm_writer.proofs.lines.put_quantum_register.Goals as goal

pub returns-in_err-put-clause-err : goal.returns-in_err-put-clause-err
returns-in_err-put-clause-err g c =
    on_err _ _ (fault-now _ _ c.args.buffer.now (codes "qreg ") _ c.in_err-put.ensures.err)

pub returns-in_err-put_qubit-clause-err : goal.returns-in_err-put_qubit-clause-err
returns-in_err-put_qubit-clause-err g c =
    on_err _ _ (fault-then _ _ _ _ _ _ _ c.in_ok-put.ensures.ok (fault-now _ _ c.put.new.buffer (index_text (with_underscores c.args.q) c.args.wires) _ c.in_err-put_qubit.ensures.err))

pub returns-clause-ok : goal.returns-clause-ok
returns-clause-ok g c = then-ok _ _ _ _ _ _ _ _ _ c.in_ok-put.ensures.ok (then-ok _ _ _ _ _ _ _ _ _ c.in_ok-put_qubit.ensures.ok c.put-2.ensures.ok)

pub returns-clause-err : goal.returns-clause-err
returns-clause-err g c = then-err _ _ _ _ _ _ _ _ c.in_ok-put.ensures.ok (then-err _ _ _ _ _ _ _ _ c.in_ok-put_qubit.ensures.ok c.put-2.ensures.err)
