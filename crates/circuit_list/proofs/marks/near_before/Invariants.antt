-- No slot of the blocks so far is marked.
use Rattle.std.proofs.Common.{◌+◌, ◌-◌, ◌*◌, ◌/◌}
use Rattle.circuit_list.specs.Marks.{NoneMarked}
use Rattle.circuit_list.proofs.marks.near_before.Given as goal

abbrev pub invariant-blocks-2 : goal.invariant-blocks-2
invariant-blocks-2 l = NoneMarked l.wire l.marks ((l.slot / 64 + 1 - l.block) * 64) l.slot
