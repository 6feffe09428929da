use Rattle.coupling_map.proofs.DescribedLaws.{described_or_refused}
use Rattle.coupling_map.proofs.laws.described_or_refused.Goals as goal

pub returns : goal.returns
returns c = record { either = described_or_refused }
