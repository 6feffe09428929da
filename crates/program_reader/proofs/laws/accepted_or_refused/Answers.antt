use Rattle.program_reader.proofs.LimitLaws.{accepted_or_refused}
use Rattle.program_reader.proofs.laws.accepted_or_refused.Goals as goal

pub returns : goal.returns
returns c = record { either = accepted_or_refused c.text_accepted_or_refused.ensures.either }
