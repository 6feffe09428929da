use Rattle.std.proofs.Common.{◌≡◌, ◌++◌, replicate}
use Rattle.spare_layers.proofs.weaving.spared.Given as goal

abbrev pub invariant-spares : goal.invariant-spares
invariant-spares l = l.all.items ≡ l.fn.rows.items ++ replicate l.counter 0
