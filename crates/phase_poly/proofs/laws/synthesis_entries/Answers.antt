use Rattle.phase_poly.proofs.MeaningLaws.{cnots-entry, cnots-elsewhere, synth-entry, synth-elsewhere}
use Rattle.phase_poly.proofs.laws.synthesis_entries.Goals as goal

pub returns-clause-entry : goal.returns-clause-entry
returns-clause-entry c = synth-entry

pub returns-clause-elsewhere : goal.returns-clause-elsewhere
returns-clause-elsewhere c = synth-elsewhere

pub returns-clause-between : goal.returns-clause-between
returns-clause-between c = cnots-entry

pub returns-clause-between_elsewhere : goal.returns-clause-between_elsewhere
returns-clause-between_elsewhere c = cnots-elsewhere
