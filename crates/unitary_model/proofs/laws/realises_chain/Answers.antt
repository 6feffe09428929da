use Rattle.unitary_model.proofs.RealisesLaws.{Realises_chain}
use Rattle.unitary_model.proofs.laws.realises_chain.Goals as goal

pub returns : goal.returns
returns c = record { chain = Realises_chain }
