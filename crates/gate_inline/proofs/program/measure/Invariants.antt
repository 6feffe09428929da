-- The wires so far are read into their bits.
use Rattle.std.proofs.Common.{◌≡◌, ℕ, ◌<◌, None, length, get_or}
use Rattle.std.specs.Option.{option_or}
use Rattle.gate_inline.specs.Reads.{read_within}
use Rattle.gate_inline.proofs.program.measure.Given as goal

abbrev pub invariant-wires : goal.invariant-wires
invariant-wires l = (x : ℕ) → x < length l.initial.list → get_or l.list x None ≡ option_or (read_within l.j l.qubit l.bit x) (get_or l.initial.list x None)
