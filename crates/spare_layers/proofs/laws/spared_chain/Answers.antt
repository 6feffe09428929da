use Rattle.spare_layers.proofs.SparedLaws.{IsSpared_chain}
use Rattle.spare_layers.proofs.laws.spared_chain.Goals as goal

pub returns : goal.returns
returns c = record { chain = IsSpared_chain }
