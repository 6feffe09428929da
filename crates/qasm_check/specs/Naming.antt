-- Working form. What arguments name, and what is wrong with them.
--   AreNamed k args n    n tells of the arguments whether a name is unknown, of another kind or has too great an index, and the operands
use Rattle.std.specs.Prelude.{◌≡◌, true, List}
use Rattle.std.specs.List.{list_any}
use Rattle.qasm_parser.specs.declared.tree.Arg.{Arg}
use Rattle.qasm_check.specs.Arguments.{operands}
use Rattle.qasm_check.specs.Known.{Known}
use Rattle.qasm_check.specs.Refusals.{is_beyond, is_unknown, is_wrong}
use Rattle.qasm_check.specs.declared.arguments.NamedArgs.{NamedArgs}

pub record AreNamed (k : Known) (args : List Arg) (n : NamedArgs) : Type 0 where
  pub unknown : n.unknown ≡ list_any (is_unknown k) args
  pub wrong : n.wrong ≡ list_any (is_wrong k true) args
  pub beyond : n.beyond ≡ list_any (is_beyond k) args
  pub operands : n.operands.items ≡ operands k args
