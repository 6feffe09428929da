use Rattle.circuit_list.proofs.MarkLaws.{highest_bit}
use Rattle.circuit_list.proofs.marks.highest.Goals as goal

pub returns-clause-on : goal.returns-clause-on
returns-clause-on c = (highest_bit c.args.word c.requires c.ranges.word.fits).0

pub returns-clause-none : goal.returns-clause-none
returns-clause-none c = (highest_bit c.args.word c.requires c.ranges.word.fits).1
