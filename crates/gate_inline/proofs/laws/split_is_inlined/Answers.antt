use Rattle.gate_inline.proofs.CutLaws.{split-inlined}
use Rattle.gate_inline.proofs.laws.split_is_inlined.Goals as goal

pub returns : goal.returns
returns c = record { inlined = split-inlined }
