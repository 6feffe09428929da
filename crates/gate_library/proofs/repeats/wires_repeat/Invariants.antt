use Rattle.std.proofs.Common.{◌≡◌, ℕ, false, take}
use Rattle.std.specs.Prelude.{nat_eq}
use Rattle.std.specs.List.{list_any}
use Rattle.std.specs.Ordering.{nat_cmp}
use Rattle.std.specs.BTreeSet.{contains}
use Rattle.gate_library.specs.Names.{has_repeat}
use Rattle.gate_library.proofs.repeats.wires_repeat.Given as goal

abbrev pub invariant-wires : goal.invariant-wires
invariant-wires l = record {
  same : (wire : ℕ) → contains nat_cmp l.seen wire ≡ list_any (nat_eq wire) (take l.wire-index l.wires);
  none : has_repeat nat_eq (take l.wire-index l.wires) ≡ false;
}
