use Rattle.std.proofs.Common.{◌≡◌, take}
use Rattle.qasm_check.specs.State.{tail}
use Rattle.qasm_check.proofs.known.tail.Given as goal

abbrev pub invariant-bytes : goal.invariant-bytes
invariant-bytes l = l.sum ≡ tail (take l.byte-index l.name)
