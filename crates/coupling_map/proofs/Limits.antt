-- The cost 1 is a cost; costs fit a machine's number.
use Rattle.std.proofs.Common.{ℕ, ◌+◌, ◌*◌, ◌<◌, ◌≤◌, arith}
use Rattle.unitary_model.specs.Limits.{most_qubits}
use Rattle.coupling_map.specs.Costs.{most_cost}

pub one_positive : 1 ≤ 1
one_positive = omega arith

pub one_limited : 1 ≤ most_cost
unfolding most_cost
one_limited = omega arith

pub to_most : (k : ℕ) → k ≤ 1000000 → k ≤ most_cost
unfolding most_cost
to_most k h = h

pub cost_small : most_cost ≤ 1000000
unfolding most_cost
cost_small = omega arith

pub entry-fits : (n d c : ℕ) → n ≤ most_qubits → d + most_cost ≤ n * most_cost → c ≤ 1000000 → d + c < 4294967296
unfolding most_cost
entry-fits n d c few short small = omega (arith, few, short, small)

pub step-fits : (n c d : ℕ) → n ≤ most_qubits → c ≤ most_cost → d + most_cost ≤ n * most_cost → c + d < 18446744073709551616
unfolding most_cost
step-fits n c d few small short = omega (arith, few, short, small)
