use Rattle.std.proofs.Common.{rules}
use Rattle.clap.proofs.WalkLemmas.{first_value-rows}
use Rattle.command_line.proofs.words.name_behind.Goals as goal

pub returns-in-None : goal.returns-in-None
returns-in-None c = search (first_value-rows, rules)

pub returns-in_ok-new-in-Some : goal.returns-in_ok-new-in-Some
returns-in_ok-new-in-Some c = search (first_value-rows, rules)
