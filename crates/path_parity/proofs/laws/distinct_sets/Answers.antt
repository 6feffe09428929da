use Rattle.path_parity.proofs.MarkLaws.{odd_paths-once}
use Rattle.path_parity.proofs.laws.distinct_sets.Goals as goal

pub returns : goal.returns
returns c = record { equal = λ n gs h. odd_paths-once gs n h }
