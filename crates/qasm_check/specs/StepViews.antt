-- What steps of the code stand for.
--   step         a step, apart from where its parts lie in memory
use Rattle.std.specs.Prelude.{map}
use Rattle.qasm_check.specs.Steps as spec
use Rattle.gate_library.specs.Views.{formula}
use Rattle.qasm_check.specs.declared.statement.Step.{Step}
use Rattle.qasm_check.specs.declared.statement.Step.TheVariants.{Apply, Measure, Barrier, Nothing}

abbrev pub step : Step → spec.Step
step (Apply gate angles operands) = spec.applies gate (map formula angles.items) operands.items
step (Measure qubit bit) = spec.measures qubit bit
step (Barrier operands) = spec.bars operands.items
step Nothing = spec.nothing
