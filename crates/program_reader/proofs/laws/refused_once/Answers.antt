use Rattle.program_reader.proofs.LimitLaws.{refused_once}
use Rattle.program_reader.proofs.laws.refused_once.Goals as goal

pub returns : goal.returns
returns c = record { once = refused_once c.text_refused_once.ensures.once }
