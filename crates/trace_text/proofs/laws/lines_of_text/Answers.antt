use Rattle.trace_text.proofs.TextLaws.{lines-joined, lines-unbroken, lines_of-ended}
use Rattle.trace_text.proofs.laws.lines_of_text.Goals as goal

pub returns : goal.returns
returns c = record { unbroken = lines-unbroken; made = lines_of-ended; joined = lines-joined }
