-- Working form. Heads of the code.
--   head_view    a gate's name and its angles
use Rattle.std.specs.Prelude.{map}
use Rattle.qasm_parser.specs.declared.apply.Head.{Head}
use Rattle.qasm_parser.specs.Tree.{expression}
use Rattle.qasm_parser.specs.Reading as spec

abbrev pub head_view : Head → spec.Head
head_view h = spec.head h.gate (map expression h.angles.items)
