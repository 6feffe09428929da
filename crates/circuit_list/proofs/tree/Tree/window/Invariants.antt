-- A window has slots.
use Rattle.std.proofs.Common.{◌-◌, ◌<◌}
use Rattle.circuit_list.proofs.tree.Tree.window.Given as goal

abbrev pub invariant-wider : goal.invariant-wider
invariant-wider l = 0 < l.width

abbrev pub decreases-wider : goal.decreases-wider
decreases-wider l = l.slots - l.width
