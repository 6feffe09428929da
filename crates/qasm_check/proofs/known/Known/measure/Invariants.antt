use Rattle.std.proofs.Common.{◌≡◌, ℕ, ◌||◌}
use Rattle.std.specs.Prelude.{nat_eq}
use Rattle.std.specs.List.{list_any}
use Rattle.gate_library.specs.Operands.{upto, wire_at}
use Rattle.qasm_check.proofs.known.Known.measure.Given as goal
use Rattle.std.specs.Ordering.{nat_cmp}
use Rattle.std.specs.BTreeSet.{contains}

abbrev pub invariant-wires : goal.invariant-wires
invariant-wires l = record {
  same : (wire : ℕ) → contains nat_cmp l.self.measured wire ≡ (contains nat_cmp l.fn.self.measured wire || list_any (λ j. nat_eq wire (wire_at j l.operand)) (upto l.j));
  declared : l.self.declared ≡ l.fn.self.declared;
  included : l.self.included ≡ l.fn.self.included;
  gates : l.self.gates ≡ l.fn.self.gates;
  wires : l.self.wires ≡ l.fn.self.wires;
  bits : l.self.bits ≡ l.fn.self.bits;
}
