use Rattle.unitary_model.proofs.AmplitudeLaws.{Turns-amplitude}
use Rattle.unitary_model.proofs.laws.turns_to_amplitudes.Goals as goal

pub returns : goal.returns
returns c = record { same = Turns-amplitude }
