use Rattle.std.proofs.Common.{◌≡◌}
use Rattle.unitary_model.specs.Placement.{identity}
use Rattle.placement.proofs.ascending.Given as goal

abbrev pub invariant-numbers : goal.invariant-numbers
invariant-numbers l = l.numbers.items ≡ identity l.number
