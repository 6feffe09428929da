use Rattle.unitary_model.proofs.RealisesLaws.{realises_by}
use Rattle.unitary_model.proofs.laws.realised_to_realises.Goals as goal

pub returns : goal.returns
returns c = record { realises = realises_by }
