-- The lines of the events so far are written, and the replay has gone past these.
use Rattle.std.proofs.Common.{◌≡◌, ◌++◌, drop}
use Rattle.trace_text.specs.Texts.{ended}
use Rattle.trace_model.specs.Lines.{all_spelt}
use Rattle.route_trace.specs.EventLines.{AreThere, event_lines}
use Rattle.route_trace.specs.Replays.{IsReplay}
use Rattle.route_trace.proofs.replay.push_events.Given as goal

abbrev pub invariant-events : goal.invariant-events
invariant-events l =
    IsReplay l.device.size l.replay
    × (AreThere l.device.size l.replay.rest.gates (drop l.event-index l.events)
    × (l.bytes.items ++ ended (all_spelt (event_lines l.device.edges l.replay.placement l.replay.rest.gates (drop l.event-index l.events)))
    ≡ l.fn.bytes.items ++ ended (all_spelt (event_lines l.device.edges l.fn.replay.placement l.fn.replay.rest.gates l.events))))
