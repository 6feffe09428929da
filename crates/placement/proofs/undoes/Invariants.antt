use Rattle.std.proofs.Common.{◌<◌, ℕ}
use Rattle.placement.specs.Inverse.{IsUndone}
use Rattle.placement.proofs.undoes.Given as goal

abbrev pub invariant-places : goal.invariant-places
invariant-places l = (i : ℕ) → i < l.place → IsUndone l.list l.other i
