use Rattle.path_parity.specs.Sets.{IsLabel}
use Rattle.operation_tests.proofs.parity_tests.label_of.Given as goal

abbrev pub invariant-variables : goal.invariant-variables
invariant-variables l = IsLabel l.label
