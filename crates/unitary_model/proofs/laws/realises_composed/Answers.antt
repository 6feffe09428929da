use Rattle.unitary_model.proofs.RealisesLaws.{Realises_composed}
use Rattle.unitary_model.proofs.laws.realises_composed.Goals as goal

pub returns : goal.returns
returns c = record { composed = Realises_composed }
