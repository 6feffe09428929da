use Rattle.unitary_model.proofs.JoinedAmplitude.{amplitude-append}
use Rattle.unitary_model.proofs.laws.joined_amplitude.Goals as goal

pub returns : goal.returns
returns c = record { sum = amplitude-append }
