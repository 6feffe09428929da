use Rattle.trace_check.proofs.RoutedLaws.{numbers-small}
use Rattle.trace_check.proofs.words.known_small.Goals as goal

pub returns : goal.returns
returns c = record { small = numbers-small c.args.numbers.now c.type_inv.numbers }
