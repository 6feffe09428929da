use Rattle.std.proofs.lemmas.Nat.Bits.{bit_at-trailing_zeros}
use Rattle.std.specs.Int.{w32}
use Rattle.sabre_route.proofs.best.lowest.Goals as goal

pub returns-clause-on : goal.returns-clause-on
returns-clause-on c = (bit_at-trailing_zeros w32 c.args.word c.requires c.ranges.word.fits).1

pub returns-clause-none : goal.returns-clause-none
returns-clause-none c = (bit_at-trailing_zeros w32 c.args.word c.requires c.ranges.word.fits).2
