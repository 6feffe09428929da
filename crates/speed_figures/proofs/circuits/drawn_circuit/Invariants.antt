use Rattle.std.proofs.Common.{◌≡◌}
use Rattle.speed_figures.proofs.circuits.drawn_circuit.Given as goal

abbrev pub invariant-pushes : goal.invariant-pushes
invariant-pushes l = l.circuit.wires ≡ 64
