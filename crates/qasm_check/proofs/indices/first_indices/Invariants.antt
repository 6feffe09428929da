use Rattle.std.proofs.Common.{◌≡◌, ℕ, List, take}
use Rattle.std.specs.List.{position}
use Rattle.std.specs.Str.{bytes_eq}
use Rattle.qasm_check.specs.State.{found}
use Rattle.qasm_check.proofs.indices.first_indices.Given as goal

abbrev pub invariant-names : goal.invariant-names
invariant-names l = (name : List ℕ) → found l.first name ≡ position (λ y. bytes_eq name y) (take l.i l.names)
