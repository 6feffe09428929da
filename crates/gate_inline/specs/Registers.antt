-- The classical registers of a program, as it may declare them.
--   names_of rs          their names, in order
--   IsFree r             its name is a name of the language and none of a gate of the tables, and it has a bit at least
--   AreRegisters rs n    all of them are so, their names are different, and together they have n bits, at most `most_bits`
--   IsRead n r           what a bit reads is one of n wires, or nothing
use Rattle.std.specs.Prelude.{◌≡◌, ℕ, ◌<◌, ◌≤◌, false, List, All, Option, Some, None, map, sum_by}
use Rattle.std.specs.Str.{bytes_eq}
use Rattle.gate_library.specs.Library.{table_names}
use Rattle.gate_library.specs.Limits.{most_bits}
use Rattle.gate_library.specs.Names.{has_repeat, is_one_of}
use Rattle.qasm_check.specs.declared.register.ClassicalRegister.{ClassicalRegister}
use Rattle.qasm_lexer.specs.Names.{IsName}

abbrev pub names_of : List ClassicalRegister → List (List ℕ)
names_of rs = map (λ r. r.name) rs

pub record IsFree (r : ClassicalRegister) : Type 0 where
  pub name : IsName r.name
  pub free : is_one_of table_names r.name ≡ false
  pub some : 0 < r.size

pub record AreRegisters (rs : List ClassicalRegister) (bits : ℕ) : Type 0 where
  pub each : All IsFree rs
  pub different : has_repeat bytes_eq (names_of rs) ≡ false
  pub all : sum_by (λ r. r.size) rs ≡ bits
  pub few : bits ≤ most_bits

abbrev pub IsRead : ℕ → Option ℕ → Type 0
IsRead n None = Unit {0}
IsRead n (Some q) = q < n
