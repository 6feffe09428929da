use Rattle.path_parity.proofs.OddLaws.{odd_paths-sets, odd_paths-toggled}
use Rattle.path_parity.proofs.laws.odd_paths_by_labels.Goals as goal

pub returns : goal.returns
returns c = record { events = odd_paths-toggled; sets = λ n gs. odd_paths-sets gs n }
