use Rattle.unitary_model.proofs.MoreWires.{odd_paths-more}
use Rattle.unitary_model.proofs.laws.odd_paths_on_more_wires.Goals as goal

pub returns : goal.returns
returns c = record { same = odd_paths-more }
