use Rattle.std.proofs.Common.{arith}
use Rattle.command_line.proofs.words.qroute_command.Goals as goal

pub returns : goal.returns
returns c = grind arith
