use Rattle.std.proofs.Common.{◌≡◌, false, take}
use Rattle.std.specs.List.{list_any}
use Rattle.qasm_check.specs.Meanings.{names_gate}
use Rattle.qasm_check.specs.State.{state}
use Rattle.qasm_check.proofs.known.Known.has_declared.Given as goal

abbrev pub invariant-names : goal.invariant-names
invariant-names l = list_any (λ name. names_gate ((state l.self).declared name.now)) (take l.name-index l.names) ≡ false
