use Rattle.std.proofs.Common.{◌≡◌, ◌++◌, map, take}
use Rattle.qasm_check.proofs.body.add_names.Given as goal

abbrev pub invariant-names : goal.invariant-names
invariant-names l = map (λ n. n.now) l.list.items ≡ map (λ n. n.now) l.fn.list.items ++ take l.name-index l.names
