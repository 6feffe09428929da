use Rattle.std.proofs.Common.{◌≡◌, ℕ, List, false, take}
use Rattle.std.specs.List.{list_any}
use Rattle.std.specs.Str.{bytes_eq}
use Rattle.gate_library.specs.Names.{has_repeat}
use Rattle.gate_library.specs.Views.{is_in}
use Rattle.gate_library.proofs.repeats.many_repeat.Given as goal

abbrev pub invariant-names : goal.invariant-names
invariant-names l = record {
  same : (name : List ℕ) → is_in l.seen name ≡ list_any (λ y. bytes_eq name y.now) (take l.name-index l.names);
  none : has_repeat (λ x y. bytes_eq x.now y.now) (take l.name-index l.names) ≡ false;
}
