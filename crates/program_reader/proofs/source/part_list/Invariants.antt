-- The parts so far.
use Rattle.std.proofs.Common.{◌≡◌, All, map}
use Rattle.program_reader.specs.Sources.{lists_of}
use Rattle.program_reader.proofs.source.part_list.Given as goal

abbrev pub invariant-parts : goal.invariant-parts
invariant-parts l = record {
  lists : lists_of l.list.items ≡ map (λ w. w.items) l.yielded;
  on : All (λ o. o.wires ≡ l.wires) l.list.items;
}
