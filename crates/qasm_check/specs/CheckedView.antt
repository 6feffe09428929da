-- What a checked program is seen as.
--   program      the program with its names bound, apart from where its parts lie in memory
use Rattle.std.specs.Prelude.{map}
use Rattle.qasm_check.specs.Bound.{Bound}
use Rattle.qasm_check.specs.StepViews.{step}
use Rattle.gate_library.specs.Views.{gate}
use Rattle.qasm_check.specs.declared.checked.Checked.{Checked}

abbrev pub program : Checked → Bound
program c = record {
  gates = map gate c.gates.items;
  steps = map step c.steps.items;
  wires = c.wires;
  bits = c.bits;
  registers = c.registers.items;
}
