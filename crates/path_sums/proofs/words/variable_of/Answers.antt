use Rattle.std.proofs.Common.{arith}
use Rattle.path_sums.proofs.WordLaws.{least-fits, least-there}
use Rattle.path_sums.proofs.words.variable_of.Goals as goal

pub overflow_add-result : goal.overflow_add-result
overflow_add-result c = omega (arith, least-fits c.args.set.now (record { place = 0; bits = 0 }) c.requires.words c.requires.some)

pub returns : goal.returns
returns c = least-there c.args.set.now (record { place = 0; bits = 0 }) c.requires.words c.requires.some
