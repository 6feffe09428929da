use Rattle.unitary_model.proofs.PlacementLaws.{identity_placement}
use Rattle.unitary_model.proofs.laws.identity_is_placement.Goals as goal

pub returns : goal.returns
returns c = record { placement = identity_placement }
