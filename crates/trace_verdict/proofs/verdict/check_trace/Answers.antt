-- What is told of the two programs is so of the two texts.
use Rattle.std.proofs.Common.{List, ℕ, rules, subst}
use Rattle.gate_inline.specs.Programs.{Program}
use Rattle.trace_check.specs.Outcomes.{IsOutcome}
use Rattle.trace_verdict.specs.Told.{verdict_of, IsReadAs}
use Rattle.trace_verdict.specs.Verdicts.{IsRealised, IsRefused, IsVerdict}
use Rattle.circuit_target.specs.Standing.{claim_of}
use Rattle.trace_check.specs.declared.checker.Outcome.{Outcome}
use Rattle.trace_verdict.proofs.VerdictLaws.{IsRealised-read, IsRealised-told, IsVerdict-read, IsVerdict-told, ok-of}
use Rattle.trace_verdict.proofs.verdict.check_trace.Goals as goal

pub returns-clause-verdict : goal.returns-clause-verdict
returns-clause-verdict c =
    let s : List ℕ = c.args.source.now in
    let t : List ℕ = c.args.target.now in
    let trace : List ℕ = c.args.trace.now in
    let p : Program = c.in-Ok.program in
    let q : Program = c.in-Ok-2.program in
    let o : Outcome = c.in_ok-outcome.outcome in
    let source = ok-of (IsReadAs s) (IsRefused s) c.in_ok-program.field-0 p c.in-Ok.is c.in_ok-program.ensures in
    let target = ok-of (IsReadAs t) (IsRefused t) c.in_ok-program-2.field-0 q c.in-Ok-2.is c.in_ok-program-2.ensures in
    let said : IsOutcome (claim_of p q) trace o =
    subst (λ e. IsOutcome e trace o) (λ i. record { source = c.ops.ensures.list i; wires = c.ops.ensures.wires i; target = c.ops-2.ensures.list i; qubits = c.ops-2.ensures.wires i }) c.in_ok-outcome.ensures.ok in
    let so : IsVerdict s t trace (verdict_of o) = IsVerdict-read s t trace p q o source target said in
    search (rules, IsVerdict-told)

pub returns-clause-realises : goal.returns-clause-realises
returns-clause-realises c =
    let s : List ℕ = c.args.source.now in
    let t : List ℕ = c.args.target.now in
    let trace : List ℕ = c.args.trace.now in
    let p : Program = c.in-Ok.program in
    let q : Program = c.in-Ok-2.program in
    let o : Outcome = c.in_ok-outcome.outcome in
    let source = ok-of (IsReadAs s) (IsRefused s) c.in_ok-program.field-0 p c.in-Ok.is c.in_ok-program.ensures in
    let target = ok-of (IsReadAs t) (IsRefused t) c.in_ok-program-2.field-0 q c.in-Ok-2.is c.in_ok-program-2.ensures in
    let said : IsOutcome (claim_of p q) trace o =
    subst (λ e. IsOutcome e trace o) (λ i. record { source = c.ops.ensures.list i; wires = c.ops.ensures.wires i; target = c.ops-2.ensures.list i; qubits = c.ops-2.ensures.wires i }) c.in_ok-outcome.ensures.ok in
    let so : IsRealised s t (verdict_of o) =
    IsRealised-read c.means_once.ensures.once c.traces_are_sound.ensures.sound s t trace p q o source target c.facts.ensures.fine c.facts-2.ensures.fine said in
    search (rules, IsRealised-told)
