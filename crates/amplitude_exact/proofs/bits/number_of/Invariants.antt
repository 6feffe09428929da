use Rattle.std.proofs.Common.{◌≡◌, ◌-◌, ◌^◌, ◌<◌, ◌≤◌, length, drop}
use Rattle.amplitude_exact.specs.Columns.{bits}
use Rattle.amplitude_exact.proofs.bits.number_of.Given as goal

abbrev pub invariant-bits : goal.invariant-bits
invariant-bits l = record {
  in_range : l.left ≤ length l.list;
  below : l.number < 2 ^ (length l.list - l.left);
  same : bits (length l.list - l.left) l.number ≡ drop l.left l.list;
}

abbrev pub decreases-bits : goal.decreases-bits
decreases-bits l = l.left
