use Rattle.std.proofs.Common.{ℕ, ◌+◌, List, Option, ap}
use Rattle.qasm_check.specs.State.{state}
use Rattle.qasm_check.specs.declared.meaning.Meaning.{Meaning}
use Rattle.qasm_check.proofs.StateLaws.{declared-with}
use Rattle.qasm_check.proofs.known.Known.add_wires.Goals as goal

pub returns : goal.returns
returns c =
    ap (λ (f : List ℕ → Option Meaning). record (state c.args.self.now) { declared = f; wires = c.args.self.now.wires + c.args.size })
    (declared-with c.args.name.now _ c.tail.ensures c.args.self.now.declared c.insert.new.self _ c.in_ok-insert.ensures.updates)
