use Rattle.program_parts.proofs.CutLaws.{chopped-whole, length-whole_by, whole-append, whole-chopped}
use Rattle.program_parts.proofs.laws.cuts_and_wholes.Goals as goal

pub returns : goal.returns
returns g c = record { chopped = chopped-whole; whole = whole-chopped; joined = whole-append; length = length-whole_by }
