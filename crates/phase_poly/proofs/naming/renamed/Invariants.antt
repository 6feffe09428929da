-- The gates so far, by names.
use Rattle.std.proofs.Common.{◌≡◌, take}
use Rattle.phase_poly.specs.Named.{named_all}
use Rattle.phase_poly.proofs.naming.renamed.Given as goal

abbrev pub invariant-renamed : goal.invariant-renamed
invariant-renamed l = l.list.items ≡ named_all l.names (take l.g-index l.gates)
