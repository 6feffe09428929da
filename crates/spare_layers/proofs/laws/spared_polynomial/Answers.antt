use Rattle.spare_layers.proofs.SparedLayerLaws.{spared_turns}
use Rattle.spare_layers.proofs.laws.spared_polynomial.Goals as goal

pub returns : goal.returns
returns c = record { turns = spared_turns }
