-- How many bits a program may have. How many qubits it may have is `most_qubits` of the model.
--   most_bits     the most classical bits of all registers together
use Rattle.std.specs.Prelude.{ℕ}

abbrev pub most_bits : ℕ
most_bits = 1024
