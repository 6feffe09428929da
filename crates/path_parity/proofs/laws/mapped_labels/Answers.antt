use Rattle.path_parity.proofs.OddLaws.{odd_size-mapped, odd_size-carried, odd_paths-mapped}
use Rattle.path_parity.proofs.laws.mapped_labels.Goals as goal

pub returns : goal.returns
returns c = record {
  labels = λ f lin ls. odd_size-mapped f ls;
  events = odd_size-carried;
  circuits = λ f lin n m old new h. odd_paths-mapped f n m old new h;
}
