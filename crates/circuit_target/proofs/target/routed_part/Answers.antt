-- The trace of a run is asked for where its events are told, and is that of a part that isn't cleaned.
use Rattle.std.proofs.Common.{◌∙◌, subst, sym}
use Rattle.sabre_route.specs.Telling.{IsRoutedBy}
use Rattle.circuit_target.proofs.TargetLaws.{IsTraceOf-run}
use Rattle.circuit_target.proofs.target.routed_part.Goals as goal

pub trace_of_run-requires-clause-events : goal.trace_of_run-requires-clause-events
trace_of_run-requires-clause-events g c = λ asked.
    let seen = c.requires.seen in (
      seen.0,
      subst (λ p. IsRoutedBy seen.0 c.args.device.now c.args.rewritten.now.passed.body.gates p c.in_ok-run.run'.routed c.in_ok-run.run'.events.items)
          (sym (c.as_slice.ensures.value ∙ c.in_ok-initial.ensures)) (c.in_ok-run.ensures.events seen.0 seen.1 (c.is_some-traced.ensures ∙ asked)),
    )

pub returns-clause-told : goal.returns-clause-told
returns-clause-told g c = λ kept.
    let routed = c.in_ok-run.run'.routed in
    IsTraceOf-run c.args.device.now c.args.given c.as_slice.result.now c.args.rewritten.now routed
    (record { body = c.in_ok-left.left.body; last = c.in_ok-last.last; swaps = routed.swaps; turn = c.turn_sum.result })
    c.args.clean routed.body.wires c.turn_sum-turn.result c.in_ok-left.left.turn c.in_ok-trace.trace.items c.in_ok-trace.ensures.told
    (c.as_slice.ensures.value ∙ c.in_ok-initial.ensures) c.turn_sum-turn.ensures.sum c.in_ok-left.ensures.cleaned c.in_ok-last.ensures
    c.turn_sum.ensures.sum kept
