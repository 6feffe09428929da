use Rattle.phase_poly.proofs.MeaningLaws.{image-entry, image-elsewhere}
use Rattle.phase_poly.proofs.laws.polynomial_entries.Goals as goal

pub returns-clause-entry : goal.returns-clause-entry
returns-clause-entry c = image-entry

pub returns-clause-elsewhere : goal.returns-clause-elsewhere
returns-clause-elsewhere c = image-elsewhere
