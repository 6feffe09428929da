use Rattle.std.proofs.Common.{◌≡◌, ◌+◌, drop}
use Rattle.unitary_model.specs.Operations.{cx_count}
use Rattle.gate_expand.proofs.counts.cx_count_of.Given as goal

abbrev pub invariant-loop-op : goal.invariant-loop-op
invariant-loop-op l = l.count + cx_count (drop l.op-index l.ops) ≡ cx_count l.ops
