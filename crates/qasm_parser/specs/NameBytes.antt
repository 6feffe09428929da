-- Working form. Names of the code.
--   name_bytes    the bytes of a name, wherever they lie
use Rattle.std.specs.Prelude.{ℕ, List}
use Rattle.qasm_parser.specs.declared.name.Bytes.{Bytes}
use Rattle.qasm_parser.specs.declared.name.Bytes.TheVariants.{Short, Long}

abbrev pub name_bytes : Bytes → List ℕ
name_bytes (Short s) = s
name_bytes (Long v) = v.value.items
