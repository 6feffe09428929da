-- What is kept has the gates of the slots so far.
use Rattle.std.proofs.Common.{◌≡◌, take}
use Rattle.circuit_list.specs.Entries.{gates_of}
use Rattle.circuit_list.proofs.tree.live.Given as goal

abbrev pub invariant-slots : goal.invariant-slots
invariant-slots l = gates_of l.kept.items ≡ gates_of (take l.entry-index l.entries)
