-- The probe commutes with what it has come to on the wire.
use Rattle.std.proofs.Common.{◌≡◌, ◌+◌, ◌-◌, ◌≤◌, length, true}
use Rattle.circuit_list.specs.Slots.{IsLive, is_on_at, place_of}
use Rattle.rewrite_steps.specs.Known.{IsBetween}
use Rattle.rewrite_steps.proofs.pairs.ahead.Given as goal

abbrev pub invariant-gates : goal.invariant-gates
invariant-gates l = record {
  live : IsLive l.body l.at;
  on : is_on_at l.wire l.body.gates (place_of l.at l.body.slots) ≡ true;
  from : l.fn.from ≤ l.at;
  clear : IsBetween l.probe l.body.gates l.body.slots l.fn.from (l.at + 1);
}

abbrev pub decreases-gates : goal.decreases-gates
decreases-gates l = length l.body.gates - place_of l.at l.body.slots
