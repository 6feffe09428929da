-- The sum so far, with the costs from here on, is the whole.
use Rattle.std.proofs.Common.{◌≡◌, ◌+◌, ◌*◌, ◌≤◌, drop}
use Rattle.circuit_list.specs.Gates.{ops}
use Rattle.unitary_model.specs.Operations.{cx_count}
use Rattle.routed_parts.specs.Costs.{cx_cost}
use Rattle.circuit_target.proofs.cost.sum_of_costs.Given as goal

abbrev pub invariant-places : goal.invariant-places
invariant-places l = record {
  whole : l.sum + cx_cost l.device (ops (drop l.place l.body.gates)) ≡ cx_cost l.device (ops l.body.gates);
  few : l.sum + cx_count (ops (drop l.place l.body.gates)) * 1000000 ≤ cx_count (ops l.body.gates) * 1000000;
}
