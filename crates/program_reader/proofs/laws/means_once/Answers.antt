use Rattle.program_reader.proofs.ReaderLaws.{means-once}
use Rattle.program_reader.proofs.laws.means_once.Goals as goal

pub returns : goal.returns
returns c = record { once = means-once c.lexed_once.ensures.once c.spelt_once.ensures.once c.cut_once.ensures.once }
