-- Working form.
--     IsReplay n r            the replay r is that of a circuit on the n qubits of a device
use Rattle.std.specs.Prelude.{◌≡◌, ℕ, ◌≤◌, length}
use Rattle.route_trace.specs.declared.replay.Replay.{Replay}

pub record IsReplay (n : ℕ) (r : Replay) : Type 0 where
  pub fits : r.rest.wires ≤ n
  pub placed : length r.placement ≡ n
