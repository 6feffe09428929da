use Rattle.std.proofs.Common.{◌≡◌, map, take}
use Rattle.qasm_parser.specs.Tree.{statement as tree}
use Rattle.qasm_check.specs.Checking.{AllFine, steps}
use Rattle.qasm_check.specs.Known.{fresh}
use Rattle.qasm_check.specs.State.{state}
use Rattle.qasm_check.specs.StepViews.{step}
use Rattle.qasm_check.specs.Steps.{known}
use Rattle.qasm_check.proofs.program.checked.Given as goal

abbrev pub invariant-statements : goal.invariant-statements
invariant-statements l = record {
  known : state l.known ≡ known (map tree (take l.i l.it-items));
  fine : AllFine fresh (map tree (take l.i l.it-items));
  steps : map step l.steps.items ≡ steps fresh (map tree (take l.i l.it-items));
}
