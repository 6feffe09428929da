use Rattle.path_parity.proofs.AmplitudeLaws.{amplitude-paths}
use Rattle.path_parity.proofs.laws.amplitude_of_paths.Goals as goal

pub returns : goal.returns
returns c = record { paths = amplitude-paths }
