-- The names so far are taken.
use Rattle.std.proofs.Common.{◌≡◌, ◌<◌, ℕ, true, map}
use Rattle.qasm_writer.specs.Outputs.{bits_of}
use Rattle.qasm_writer.specs.Texts.{with_underscores}
use Rattle.gate_library.specs.Names.{is_one_of}
use Rattle.gate_inline.specs.Registers.{names_of}
use Rattle.qasm_writer.proofs.underscores.Given as goal

abbrev pub invariant-names : goal.invariant-names
invariant-names l =
    (k : ℕ) → k < l.count → is_one_of (names_of (map bits_of l.registers)) (with_underscores k) ≡ true
