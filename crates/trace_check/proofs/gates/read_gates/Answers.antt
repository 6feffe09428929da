use Rattle.std.proofs.Common.{◌≡◌, ◌∙◌, ◌∷◌, arith, sym}
use Rattle.std.proofs.lemmas.List.Elements.{recursion_from_All}
use Rattle.circuit_list.specs.Gates.{IsFine}
use Rattle.rewrite_pass.specs.TraceLines.{gate_line}
use Rattle.trace_text.specs.Texts.{lines_of}
use Rattle.trace_check.proofs.GateLaws.{next_gate}
use Rattle.trace_check.proofs.WordLaws.{none-of}
use Rattle.trace_check.proofs.gates.read_gates.Goals as goal

pub returns-in_default-2-clause-none : goal.returns-in_default-2-clause-none
returns-in_default-2-clause-none c = λ gs rest long fine small e.
    let none = none-of _ c.in_ok-gate.field-0 _ c.in_default-2.is c.in_ok-gate.ensures in
    let x = next_gate c.args.wires c.lines.body.gates gs (lines_of c.lines.behind.now) rest (omega (arith, long, c.lines.invariant.long, c.lines-test.true)) (recursion_from_All (IsFine c.args.wires) gs fine) small
    (sym c.lines.invariant.read ∙ e) in
    let heads : c.in-Some.line.now ∷ lines_of c.in-Some.rest.now ≡ gate_line x.gate ∷ x.more = sym c.in-Some.ensures.lines ∙ x.left in
    let same : c.in-Some.line.now ≡ gate_line x.gate = cc in
    none x.gate x.fine x.small same
