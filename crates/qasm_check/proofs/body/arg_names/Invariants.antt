use Rattle.std.proofs.Common.{◌≡◌, map, take}
use Rattle.qasm_check.proofs.body.arg_names.Given as goal

abbrev pub invariant-each : goal.invariant-each
invariant-each l = map (λ n. n.now) l.names.items ≡ map (λ x. x.name) (take l.arg-index l.args)
