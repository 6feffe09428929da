use Rattle.trace_model.proofs.SoundLaws.{proves_realises}
use Rattle.trace_model.proofs.laws.traces_are_sound.Goals as goal

pub returns : goal.returns
returns c = record {
  sound = λ e trace p q j fs ft h. proves_realises e (record {
    fine = c.expansion_kept.ensures.fine e.wires e.source fs;
    source = c.expansion_kept.ensures.same e.wires e.source fs;
    target = c.expansion_kept.ensures.same e.qubits e.target ft;
  }) trace p q j h;
}
