use Rattle.qasm_writer.specs.Texts.{with_underscores}
use Rattle.qasm_writer.proofs.LineLaws.{phase_line}
use Rattle.qasm_writer.proofs.PieceLaws.{on_err-same}
use Rattle.qasm_writer.proofs.lines.put_gate.Goals as goal

pub returns-in-P-clause-err : goal.returns-in-P-clause-err
returns-in-P-clause-err g c =
    on_err-same _ _ _ c.args.buffer.now _ _
    (phase_line (with_underscores c.args.q) c.phase_name.result.now c.in-P.k c.in-P.wire c.args.gate c.phase_name.ensures c.in-P.is)
    c.put_single-in-P.ensures.err
