-- None of the first names stands twice.
use Rattle.std.proofs.Common.{◌≡◌, false, take}
use Rattle.std.specs.Str.{bytes_eq}
use Rattle.gate_library.specs.Names.{has_repeat}
use Rattle.gate_library.proofs.repeats.few_repeat.Given as goal

abbrev pub invariant-names : goal.invariant-names
invariant-names l = has_repeat (λ x y. bytes_eq x.now y.now) (take l.i l.names) ≡ false
