use Rattle.std.proofs.Common.{arith}
use Rattle.command_line.proofs.words.device_commands.Goals as goal

pub returns : goal.returns
returns c = grind arith
