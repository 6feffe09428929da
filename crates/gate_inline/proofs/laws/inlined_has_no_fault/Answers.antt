use Rattle.gate_inline.proofs.OnceLaws.{inlined-no_fault}
use Rattle.gate_inline.proofs.laws.inlined_has_no_fault.Goals as goal

pub returns : goal.returns
returns c = record { no_fault = inlined-no_fault }
