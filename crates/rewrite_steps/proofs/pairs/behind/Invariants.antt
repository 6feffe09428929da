-- The probe commutes with what it has come to on the wire.
use Rattle.std.proofs.Common.{◌≡◌, ◌≤◌, true}
use Rattle.circuit_list.specs.Slots.{IsLive, is_on_at, place_of}
use Rattle.rewrite_steps.proofs.KnownLaws.{IsFrom}
use Rattle.rewrite_steps.proofs.pairs.behind.Given as goal

abbrev pub invariant-gates : goal.invariant-gates
invariant-gates l = record {
  live : IsLive l.body l.at;
  on : is_on_at l.wire l.body.gates (place_of l.at l.body.slots) ≡ true;
  to : l.at ≤ l.fn.to;
  clear : IsFrom l.probe l.body.gates l.body.slots l.at l.fn.to;
}

abbrev pub decreases-gates : goal.decreases-gates
decreases-gates l = place_of l.at l.body.slots
