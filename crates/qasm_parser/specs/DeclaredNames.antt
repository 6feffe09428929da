-- The names that a program declares.
--   HasGateNames P d   each name of a gate, its own, its parameters' and its qubits', is so
--   HasNames P s      each name that a statement declares is so
use Rattle.std.specs.Prelude.{⊤, ℕ, List, All}
use Rattle.qasm_parser.specs.Tree.{Definition, Statement, register, gate, opaque}

abbrev pub HasGateNames : (List ℕ → Type 0) → Definition → Type 0
HasGateNames P d = P d.name × All P d.params × All P d.qubits

abbrev pub HasNames : (List ℕ → Type 0) → Statement → Type 0
HasNames P (register quantum name size) = P name
HasNames P (gate d) = HasGateNames P d
HasNames P (opaque d) = HasGateNames P d
HasNames P _ = ⊤
