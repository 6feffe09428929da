-- The numbers of the first texts, which differ.
use Rattle.std.proofs.Common.{◌≡◌, drop, map}
use Rattle.std.specs.Prelude.{nat_eq}
use Rattle.std.specs.List.{IsDistinct}
use Rattle.command_line.specs.Commands.{numbers_in}
use Rattle.command_line.proofs.QubitLaws.{behind}
use Rattle.command_line.proofs.words.numbers.Given as goal

abbrev pub invariant-texts : goal.invariant-texts
invariant-texts l = record {
  rest : behind l.list.items (numbers_in (drop l.text-index (map (λ t. t.now) l.texts))) ≡ numbers_in (map (λ t. t.now) l.texts);
  distinct : IsDistinct nat_eq l.list.items;
}
