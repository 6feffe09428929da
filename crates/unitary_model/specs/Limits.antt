-- The limits of the tool that more than one crate keeps.
--     most_qubits         the most qubits of a program, wires of a circuit, and qubits of a device
use Rattle.std.specs.Prelude.{ℕ}

abbrev pub most_qubits : ℕ
most_qubits = 256
