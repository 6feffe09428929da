use Rattle.unitary_model.proofs.OddCount.{odd_paths-t_count}
use Rattle.unitary_model.proofs.laws.odd_paths_at_most_t_count.Goals as goal

pub returns : goal.returns
returns c = record { at_most = odd_paths-t_count }
