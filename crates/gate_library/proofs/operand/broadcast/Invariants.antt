use Rattle.std.proofs.Common.{◌≡◌, drop}
use Rattle.gate_library.specs.Operands.{broadcast}
use Rattle.gate_library.proofs.operand.broadcast.Given as goal

abbrev pub invariant-operands : goal.invariant-operands
invariant-operands l = broadcast (drop l.operand-index l.operands) ≡ broadcast l.operands
