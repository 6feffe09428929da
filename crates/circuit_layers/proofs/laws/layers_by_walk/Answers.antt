use Rattle.circuit_layers.proofs.TurnLaws.{same_layers, none_left}
use Rattle.circuit_layers.proofs.laws.layers_by_walk.Goals as goal

pub returns-clause-walk : goal.returns-clause-walk
returns-clause-walk c = same_layers

pub returns-clause-ends : goal.returns-clause-ends
returns-clause-ends c = none_left
