use Rattle.program_reader.proofs.LimitLaws.{accepted-no_refusal}
use Rattle.program_reader.proofs.laws.accepted_has_no_refusal.Goals as goal

pub returns : goal.returns
returns c = record { no_refusal = accepted-no_refusal c.accepted_text_has_no_refusal.ensures.no_refusal }
