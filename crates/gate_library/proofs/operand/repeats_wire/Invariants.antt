use Rattle.std.proofs.Common.{◌≡◌, false, map}
use Rattle.std.specs.Prelude.{nat_eq}
use Rattle.std.specs.List.{list_any}
use Rattle.gate_library.specs.Operands.{upto, wire_at}
use Rattle.gate_library.specs.Names.{has_repeat}
use Rattle.gate_library.proofs.operand.repeats_wire.Given as goal

abbrev pub invariant-indices : goal.invariant-indices
invariant-indices l = list_any (λ j. has_repeat nat_eq (map (wire_at j) l.operands)) (upto l.j) ≡ false
