-- What arguments and expressions name.
--   operand      what an argument names; nothing where it names no register or an index is too great
--   operands     those of several arguments
--   knows        each name in the expression is one of these
use Rattle.std.specs.Prelude.{ℕ, List, Option, Bool, true, ◌&&◌}
use Rattle.std.specs.List.{filter_map}
use Rattle.qasm_parser.specs.Tree.{Expression, number, pi, param, negated, paren, call, binary}
use Rattle.qasm_parser.specs.declared.tree.Arg.{Arg}
use Rattle.gate_library.specs.Names.{is_one_of}
use Rattle.gate_library.specs.declared.operand.Operand.{Operand}
use Rattle.qasm_check.specs.Known.{Known, meaning}
use Rattle.qasm_check.specs.Meanings.{operand_in}

abbrev pub operand : Known → Arg → Option Operand
operand k arg = operand_in (meaning k arg.name) arg.index

abbrev pub operands : Known → List Arg → List Operand
operands k args = filter_map (operand k) args

abbrev pub knows : List (List ℕ) → Expression → Bool
knows names (number value) = true
knows names pi = true
knows names (param name) = is_one_of names name
knows names (negated part) = knows names part
knows names (paren part) = knows names part
knows names (call function part) = knows names part
knows names (binary sign left right) = knows names left && knows names right
