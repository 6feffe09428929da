-- The gates so far, and those behind the present one, are all from the first one on.
use Rattle.std.proofs.Common.{◌≡◌, ◌+◌, ◌-◌, true, drop, length}
use Rattle.std.specs.List.{count_by}
use Rattle.circuit_list.specs.Gates.{is_on}
use Rattle.circuit_list.specs.Slots.{IsLive, is_on_at, place_of}
use Rattle.circuit_tests.proofs.walk_tests.gates_on.Given as goal

abbrev pub invariant-walk : goal.invariant-walk
invariant-walk l = record {
  live : IsLive l.circuit l.slot;
  on : is_on_at l.wire l.circuit.gates (place_of l.slot l.circuit.slots) ≡ true;
  counted : l.count + count_by (is_on l.wire) (drop (place_of l.slot l.circuit.slots + 1) l.circuit.gates)
      ≡ count_by (is_on l.wire) (drop (place_of l.fn.start l.circuit.slots) l.circuit.gates);
}

abbrev pub decreases-walk : goal.decreases-walk
decreases-walk l = length l.circuit.gates - place_of l.slot l.circuit.slots
