use Rattle.std.proofs.Common.{rules}
use Rattle.clap.proofs.WalkLemmas.{first_value-rows}
use Rattle.command_line.proofs.words.is_given.Goals as goal

pub returns-in-Some : goal.returns-in-Some
returns-in-Some c = search (first_value-rows, rules)

pub returns-in-None : goal.returns-in-None
returns-in-None c = search (first_value-rows, rules)
