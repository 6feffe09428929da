use Rattle.std.proofs.Common.{arith, sym}
use Rattle.command_line.proofs.NumberLaws.{number-parsed}
use Rattle.command_line.proofs.words.number.Goals as goal

pub returns-in-Ok : goal.returns-in-Ok
returns-in-Ok c = sym (number-parsed c.args.least c.args.most c.in-Ok.number c.args.text.now c.parse.result
    (grind arith) c.parse.ensures.value.0 (grind arith) (grind arith) (grind arith) (grind arith))
