-- The first operations of the part are put.
use Rattle.std.proofs.Common.{◌≡◌, ◌++◌, ◌-◌, map, take, drop}
use Rattle.gate_library.specs.Operands.{wire_at as wire_there}
use Rattle.gate_inline.specs.Renaming.{renamed, renamed_op}
use Rattle.gate_inline.proofs.renaming.push_renamed.Given as goal

abbrev pub invariant-ops : goal.invariant-ops
invariant-ops l = l.list.items ≡ l.fn.list.items ++ map (renamed_op (renamed l.from (map (wire_there l.j) l.places))) (take (l.k - l.start) (drop l.start l.fn.list.items))
