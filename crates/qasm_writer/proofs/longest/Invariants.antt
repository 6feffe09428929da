-- No name so far is longer.
use Rattle.std.proofs.Common.{◌≤◌, All, length, take}
use Rattle.qasm_writer.proofs.longest.Given as goal

abbrev pub invariant-registers : goal.invariant-registers
invariant-registers l = All (λ r. length r.name.now ≤ l.longest) (take l.register-index l.registers)
