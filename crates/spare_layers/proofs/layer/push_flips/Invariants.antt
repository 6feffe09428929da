use Rattle.std.proofs.Common.{◌≡◌, ◌≤◌, ◌++◌, length}
use Rattle.phase_poly.specs.Resynthesis.{flip_gates}
use Rattle.spare_layers.proofs.layer.push_flips.Given as goal

abbrev pub invariant-wires : goal.invariant-wires
invariant-wires l = record {
  gates : l.gates.items ≡ l.initial.gates.items ++ flip_gates l.q l.flips;
  number : l.number ≡ length (flip_gates l.q l.flips);
  few : l.number ≤ l.q;
}
