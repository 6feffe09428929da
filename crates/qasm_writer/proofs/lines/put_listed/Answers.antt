use Rattle.std.proofs.Common.{◌++◌, ◌∙◌, ap, refl}
use Rattle.qasm_writer.specs.Texts.{with_underscores}
use Rattle.qasm_writer.proofs.LineLaws.{listed_behind-next, listed-listed_behind}
use Rattle.qasm_writer.proofs.PieceLaws.{Leads-more, Leads-start, Leads-stop, on_err}
use Rattle.qasm_writer.proofs.lines.put_listed.Goals as goal

pub wires-init : goal.wires-init
wires-init g c = record {
  leads = Leads-start _ _ _ _ _ (ap (λ z. c.args.buffer.now ++ z) (listed-listed_behind (with_underscores c.args.q) c.args.wires.now));
  calm = refl;
}

pub returns-in_err-put_bytes-clause-err : goal.returns-in_err-put_bytes-clause-err
returns-in_err-put_bytes-clause-err g c =
    on_err _ _ (Leads-stop _ _ _ _ _ _ _ _ _ c.wires.invariant.leads
    (listed_behind-next (with_underscores c.args.q) c.wires.comma.now c.args.wires.now c.wires.i 0 c.wires-test.true) c.in_err-put_bytes.ensures.err)

pub returns-in_err-put_qubit-clause-err : goal.returns-in_err-put_qubit-clause-err
returns-in_err-put_qubit-clause-err g c =
    on_err _ _ (Leads-stop _ _ _ _ _ _ _ _ _ (Leads-more _ _ _ _ _ _ _ _ _ _ c.wires.invariant.leads
    (listed_behind-next (with_underscores c.args.q) c.wires.comma.now c.args.wires.now c.wires.i _ c.wires-test.true) c.in_ok-put_bytes.ensures.ok)
    refl c.in_err-put_qubit.ensures.err)

pub wires-preserved : goal.wires-preserved
wires-preserved g c = record {
  leads = Leads-more _ _ _ _ _ _ _ _ _ _ (Leads-more _ _ _ _ _ _ _ _ _ _ c.wires.invariant.leads
      (listed_behind-next (with_underscores c.args.q) c.wires.comma.now c.args.wires.now c.wires.i _ c.wires-test.true) c.in_ok-put_bytes.ensures.ok)
      refl c.in_ok-put_qubit.ensures.ok;
  calm = c.in_ok-put_qubit.ensures.cause.ok ∙ c.in_ok-put_bytes.ensures.cause.ok ∙ c.wires.invariant.calm;
}
