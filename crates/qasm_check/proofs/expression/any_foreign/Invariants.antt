use Rattle.std.proofs.Common.{◌≡◌, false, not, take}
use Rattle.std.specs.List.{list_any}
use Rattle.qasm_parser.specs.Tree.{expression}
use Rattle.qasm_check.specs.Arguments.{knows}
use Rattle.qasm_check.proofs.expression.any_foreign.Given as goal

abbrev pub invariant-trees : goal.invariant-trees
invariant-trees l = list_any (λ e. not (knows l.params (expression e))) (take l.tree-index l.trees) ≡ false
