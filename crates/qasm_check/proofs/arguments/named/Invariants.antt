use Rattle.std.proofs.Common.{◌≡◌, true, take}
use Rattle.std.specs.List.{list_any}
use Rattle.qasm_check.specs.Arguments.{operands}
use Rattle.qasm_check.specs.Refusals.{is_beyond, is_unknown, is_wrong}
use Rattle.qasm_check.specs.State.{state}
use Rattle.qasm_check.proofs.arguments.named.Given as goal

abbrev pub invariant-each : goal.invariant-each
invariant-each l =
    (l.unknown ≡ list_any (is_unknown (state l.known)) (take l.arg-index l.args))
    × (l.wrong ≡ list_any (is_wrong (state l.known) true) (take l.arg-index l.args))
    × (l.beyond ≡ list_any (is_beyond (state l.known)) (take l.arg-index l.args))
    × (l.operands.items ≡ operands (state l.known) (take l.arg-index l.args))
