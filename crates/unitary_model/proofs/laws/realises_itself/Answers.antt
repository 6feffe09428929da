use Rattle.unitary_model.proofs.RealisesLaws.{Realises_itself}
use Rattle.unitary_model.proofs.laws.realises_itself.Goals as goal

pub returns : goal.returns
returns c = record { itself = Realises_itself }
