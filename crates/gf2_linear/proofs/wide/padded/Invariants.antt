use Rattle.std.proofs.Common.{◌≡◌, ◌≤◌, ◌++◌, ◌-◌, length, replicate}
use Rattle.gf2_linear.proofs.wide.padded.Given as goal

abbrev pub invariant-spares : goal.invariant-spares
invariant-spares l = record {
  start : length l.fn.rows.items ≤ l.counter;
  rows : l.wide.items ≡ l.fn.rows.items ++ replicate (l.counter - length l.fn.rows.items) 0;
}
