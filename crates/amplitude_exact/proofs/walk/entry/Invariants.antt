use Rattle.std.proofs.Common.{◌≡◌, ◌≤◌, ◌^◌, length, drop}
use Rattle.amplitude_exact.specs.Columns.{IsColumn}
use Rattle.amplitude_exact.proofs.walk.entry.Given as goal

abbrev pub invariant-ops : goal.invariant-ops
invariant-ops l = record {
  in_range : l.left ≤ length l.ops;
  column : IsColumn l.wires (drop l.left l.ops) l.to l.column.items;
  next : length l.next.items ≡ 2 ^ l.wires;
}

abbrev pub decreases-ops : goal.decreases-ops
decreases-ops l = l.left
