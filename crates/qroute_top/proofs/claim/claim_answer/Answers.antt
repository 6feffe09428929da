-- Why the claim isn't proved, and what is told where it is.
use Rattle.std.proofs.Common.{◌∙◌, All, refl, subst}
use Rattle.std.proofs.lemmas.Result.{err_from_is_err_and}
use Rattle.outside_io.specs.Shelf.{TellsText}
use Rattle.gate_expand.specs.Expansion.{IsFineOp}
use Rattle.gate_inline.specs.Programs.{Program}
use Rattle.route_report.specs.declared.faults.Side.TheVariants as side
use Rattle.trace_model.specs.Proves.{Proves}
use Rattle.trace_text.specs.Texts.{trace_of}
use Rattle.circuit_target.specs.Standing.{claim_of}
use Rattle.qroute_top.proofs.ClaimLaws.{IsClaimStop-source, IsClaimStop-target, IsClaimStop-trace, IsTraceStop-same, claim-kept, failed_same, ok_is_no_err, stop_after}
use Rattle.qroute_top.proofs.claim.claim_answer.Goals as goal

pub returns-in_err-source-clause-err : goal.returns-in_err-source-clause-err
returns-in_err-source-clause-err g c =
    let p = err_from_is_err_and c.from_residual.result c.from_residual.ensures.1 in
    let it = IsClaimStop-source (g.F.Shelf.content c.args.shelf.now) c.args.source.now c.args.target.now (g.F.Shelf.faults c.args.shelf.now)
    (g.F.Shelf.faults c.load_program.new.shelf) _ c.in_err-source.ensures.err (λ f. c.in_err-source.ensures.calm (λ e. f (failed_same _ _ _ refl e))) in
    rw (p.1, p.2) it

pub returns-in_err-target-clause-err : goal.returns-in_err-target-clause-err
returns-in_err-target-clause-err g c =
    let p = err_from_is_err_and c.from_residual-in_err-target.result c.from_residual-in_err-target.ensures.1 in
    let first = c.in_ok-source.ensures in
    let steady = first.calm (λ e. ok_is_no_err _ _ e) in
    let second = c.in_err-target.ensures in
    let read = first.accepted in
    let it = IsClaimStop-target (g.F.Shelf.content c.args.shelf.now) c.args.source.now c.args.target.now c.in_ok-source.source.text.items read.0
    (g.F.Shelf.faults c.args.shelf.now) (g.F.Shelf.faults c.load_program-2.new.shelf) _ (first.told, first.short, read.1)
    (stop_after side.Target _ _ _ _ _ _ (first.keeps c.args.target.now) steady second.err) (λ f. second.calm (λ e. f (failed_same _ _ _ refl e)) ∙ steady) in
    rw (p.1, p.2) it

pub returns-in_err-phase-clause-err : goal.returns-in_err-phase-clause-err
returns-in_err-phase-clause-err g c =
    let p = err_from_is_err_and c.from_residual-in_err-phase.result c.from_residual-in_err-phase.ensures.1 in
    let first = c.in_ok-source.ensures in
    let second = c.in_ok-target.ensures in
    let steady = second.calm (λ e. ok_is_no_err _ _ e) ∙ first.calm (λ e. ok_is_no_err _ _ e) in
    let read = first.accepted in
    let other = second.accepted in
    let it = IsClaimStop-trace (g.F.Shelf.content c.args.shelf.now) c.args.source.now c.args.target.now c.in_ok-source.source.text.items
    c.in_ok-target.target.text.items read.0 other.0 (g.F.Shelf.faults c.args.shelf.now)
    (g.F.Shelf.faults c.load_program-2.new.shelf) _ (first.told, first.short, read.1)
    (subst (λ o. TellsText o c.in_ok-target.target.text.items) (first.keeps c.args.target.now) second.told, second.short, other.1)
    (IsTraceStop-same _ _ _ _ (claim-kept _ _ read.0 other.0 read.2 other.2) c.in_err-phase.ensures.err) steady in
    rw (p.1, p.2) it

pub returns-clause-made : goal.returns-clause-made
returns-clause-made g c =
    let first = c.in_ok-source.ensures in
    let second = c.in_ok-target.ensures in
    let proof = c.in_ok-phase.ensures.ok in
    let read = first.accepted in
    let other = second.accepted in
    let same = claim-kept c.in_ok-source.source.program c.in_ok-target.target.program read.0 other.0 read.2 other.2 in
    let proves = subst (λ e. Proves e (trace_of c.in_ok-target.target.text.items) proof.0 proof.1 c.in_ok-phase.phase) same proof.2 in
    λ text line is. (
      record {
        source_text = c.in_ok-source.source.text.items;
        source = read.0;
        source_told = (first.told, first.short, read.1);
        target_text = c.in_ok-target.target.text.items;
        target = other.0;
        target_told = (subst (λ o. TellsText o c.in_ok-target.target.text.items) (first.keeps c.args.target.now) second.told, second.short, other.1);
        first = proof.0;
        last = proof.1;
        phase = c.in_ok-phase.phase;
        proves = proves;
        realises = c.traces_are_sound.ensures.sound (claim_of read.0 other.0) (trace_of c.in_ok-target.target.text.items) proof.0 proof.1
            c.in_ok-phase.phase (subst (λ (p : Program). All (IsFineOp p.wires) p.ops) read.2 c.facts.ensures.fine)
            (subst (λ (p : Program). All (IsFineOp p.wires) p.ops) other.2 c.facts-2.ensures.fine) proves;
        line = is.0 ∙ c.in_ok-text.ensures.ok;
      },
      is.1,
    )
