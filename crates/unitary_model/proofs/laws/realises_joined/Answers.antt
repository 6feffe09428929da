use Rattle.unitary_model.proofs.RealisesLaws.{Realises_joined}
use Rattle.unitary_model.proofs.laws.realises_joined.Goals as goal

pub returns : goal.returns
returns c = record { joined = Realises_joined }
