use Rattle.std.proofs.Common.{◌∙◌, arith, length, refl}
use Rattle.qasm_writer.specs.Texts.{with_underscores}
use Rattle.qasm_writer.proofs.LineLaws.{parts-last, parts-next, parts_within}
use Rattle.qasm_writer.proofs.PieceLaws.{Leads-more, Leads-stop, last-err, last-ok, on_err}
use Rattle.qasm_writer.proofs.lines.put_parts.Goals as goal

pub returns-in_err-put_part-clause-err : goal.returns-in_err-put_part-clause-err
returns-in_err-put_part-clause-err g c =
    let o = c.args.output.now in
    on_err _ _ (Leads-stop _ _ _ _ _ _ _ _ _ c.barriers.invariant.leads
    (parts-next (with_underscores c.args.q) o.lengths.now o.barriers.now o.body.now.gates c.barriers.k c.barriers.from _ _ _ _ c.barriers-test.true
    c.requires.cut refl c.wires-wires.ensures.value)
    c.in_err-put_part.ensures.err)

pub barriers-preserved : goal.barriers-preserved
barriers-preserved g c =
    let o = c.args.output.now in record {
      leads = Leads-more _ _ _ _ _ _ _ _ _ _ c.barriers.invariant.leads
          (parts-next (with_underscores c.args.q) o.lengths.now o.barriers.now o.body.now.gates c.barriers.k c.barriers.from _ _ _ _ c.barriers-test.true
          c.requires.cut refl c.wires-wires.ensures.value)
          c.in_ok-put_part.ensures.ok;
      calm = c.in_ok-put_part.ensures.cause.ok ∙ c.barriers.invariant.calm;
      left = parts_within o.lengths.now c.barriers.k c.barriers.from _ (length o.body.now.gates) (omega (arith, c.barriers-test.true, c.requires.cut)) c.barriers.invariant.left;
      known = c.note_barrier-known.ensures.noted;
    }

pub returns-clause-ok : goal.returns-clause-ok
returns-clause-ok g c =
    let o = c.args.output.now in
    last-ok _ _ _ _ _ _ _ _ _ _ c.barriers.invariant.leads
    (parts-last (with_underscores c.args.q) o.lengths.now o.barriers.now o.body.now.gates c.barriers.k c.barriers.from _ c.barriers-test.false c.barriers.auto.k-end
    c.requires.cut c.barriers.invariant.left c.len-end.ensures.value) c.put_gates.ensures.ok

pub returns-clause-err : goal.returns-clause-err
returns-clause-err g c =
    let o = c.args.output.now in
    last-err _ _ _ _ _ _ _ _ _ c.barriers.invariant.leads
    (parts-last (with_underscores c.args.q) o.lengths.now o.barriers.now o.body.now.gates c.barriers.k c.barriers.from _ c.barriers-test.false c.barriers.auto.k-end
    c.requires.cut c.barriers.invariant.left c.len-end.ensures.value) c.put_gates.ensures.err
