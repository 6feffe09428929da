use Rattle.std.proofs.Common.{◌≡◌, ◌+◌, drop}
use Rattle.unitary_model.specs.Operations.{t_count}
use Rattle.gate_expand.proofs.counts.t_count_of.Given as goal

abbrev pub invariant-loop-op : goal.invariant-loop-op
invariant-loop-op l = l.count + t_count (drop l.op-index l.ops) ≡ t_count l.ops
