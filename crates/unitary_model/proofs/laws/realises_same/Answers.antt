use Rattle.unitary_model.proofs.RealisesLaws.{Realises_same, same_Realises}
use Rattle.unitary_model.proofs.laws.realises_same.Goals as goal

pub returns-clause-realises : goal.returns-clause-realises
returns-clause-realises c = Realises_same

pub returns-clause-same : goal.returns-clause-same
returns-clause-same c = same_Realises
