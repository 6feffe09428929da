use Rattle.std.proofs.Common.{◌-◌, drop, take}
use Rattle.std.specs.List.{flat_map}
use Rattle.circuit_list.specs.Gates.{ops}
use Rattle.qasm_writer.specs.Texts.{op_line, with_underscores}
use Rattle.qasm_writer.proofs.PieceLaws.{fault-now, on_err, then-err, then-ok}
use Rattle.qasm_writer.proofs.lines.put_part.Goals as goal

pub returns-in_err-put_gates-clause-err : goal.returns-in_err-put_gates-clause-err
returns-in_err-put_gates-clause-err g c =
    on_err _ _ (fault-now _ _ c.args.buffer.now
    (flat_map (op_line (with_underscores c.args.q)) (ops (take (c.args.to - c.args.from) (drop c.args.from c.args.body.now.gates)))) _
    c.in_err-put_gates.ensures.err)

pub returns-clause-ok : goal.returns-clause-ok
returns-clause-ok g c = then-ok _ _ _ _ _ _ _ _ _ c.in_ok-put_gates.ensures.ok c.put_noted.ensures.ok

pub returns-clause-err : goal.returns-clause-err
returns-clause-err g c = then-err _ _ _ _ _ _ _ _ c.in_ok-put_gates.ensures.ok c.put_noted.ensures.err
