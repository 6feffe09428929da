use Rattle.routed_parts.proofs.StillLaws.{AreRealised-still, cx-still, ends-still}
use Rattle.routed_parts.proofs.laws.still_parts.Goals as goal

pub returns : goal.returns
returns c = record { realised = AreRealised-still; ends = ends-still; cx_gates = cx-still }
