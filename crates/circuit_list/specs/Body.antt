-- What a contract sees of a circuit.
--   Body    the number of wires, the gates in circuit order, and the slot of each
use Rattle.std.specs.Prelude.{ℕ, List}
use Rattle.circuit_list.specs.declared.Gate.{Gate}

pub record Body : Type 0 where
  pub wires : ℕ
  pub gates : List Gate
  pub slots : List ℕ
