use Rattle.gate_inline.proofs.EitherLaws.{inlined_or_refused}
use Rattle.gate_inline.proofs.laws.inlined_or_refused.Goals as goal

pub returns : goal.returns
returns c = record { either = inlined_or_refused }
