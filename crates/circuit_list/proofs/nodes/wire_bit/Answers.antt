use Rattle.std.proofs.Common.{◌%◌, arith}
use Rattle.circuit_list.specs.Tree.{wire_bit}
use Rattle.circuit_list.proofs.TreeLaws.{shl_one}
use Rattle.circuit_list.proofs.nodes.wire_bit.Goals as goal

pub returns : goal.returns
unfolding wire_bit
returns c = record { value = shl_one (c.args.wire % 64) (omega arith) }
