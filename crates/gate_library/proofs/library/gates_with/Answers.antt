use Rattle.std.proofs.Common.{arith}
use Rattle.std.proofs.lemmas.Grind.{common_steps}
use Rattle.gate_library.proofs.TableLaws.{tables}
use Rattle.gate_library.proofs.library.gates_with.Goals as goal

pub shapes-preserved : goal.shapes-preserved
shapes-preserved c = record { same = grind (arith, common_steps, tables); size = grind (arith, common_steps) }
