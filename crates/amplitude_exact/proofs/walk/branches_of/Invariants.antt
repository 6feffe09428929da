use Rattle.std.proofs.Common.{◌≡◌, ◌+◌, ◌≤◌, drop}
use Rattle.amplitude_exact.specs.Entries.{branches}
use Rattle.amplitude_exact.proofs.walk.branches_of.Given as goal

abbrev pub invariant-ops : goal.invariant-ops
invariant-ops l = record { few : l.count ≤ l.op-index; count : l.count + branches (drop l.op-index l.ops) ≡ branches l.ops }
