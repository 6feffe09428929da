use Rattle.std.proofs.Common.{◌≡◌, drop}
use Rattle.unitary_model.specs.OddPaths.{first_walk, walked_all}
use Rattle.unitary_reference.specs.Values.{walk_of}
use Rattle.unitary_reference.proofs.paths.odd_paths_of.Given as goal

abbrev pub invariant-loop-op : goal.invariant-loop-op
invariant-loop-op l = walked_all (drop l.op-index l.ops) (walk_of l.walk) ≡ walked_all l.ops (first_walk l.fn.wires)
