-- The gates so far are counted.
use Rattle.std.proofs.Common.{◌≡◌}
use Rattle.circuit_list.specs.Entries.{rank}
use Rattle.circuit_list.proofs.scans.count_before.Given as goal

abbrev pub invariant-slots : goal.invariant-slots
invariant-slots l = l.count ≡ rank l.gates l.before
