use Rattle.program_parts.proofs.PartsLaws.{AreRealised-one, AreRealised-whole}
use Rattle.program_parts.proofs.laws.parts_are_realised.Goals as goal

pub returns : goal.returns
returns c = record { whole = AreRealised-whole; one = AreRealised-one }
