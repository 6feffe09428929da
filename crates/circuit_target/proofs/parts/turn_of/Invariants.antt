-- The turn of the first parts.
use Rattle.std.proofs.Common.{◌≡◌, ◌%◌, ◌<◌, take}
use Rattle.circuit_target.specs.Making.{turns_of}
use Rattle.circuit_target.proofs.parts.turn_of.Given as goal

abbrev pub invariant-parts : goal.invariant-parts
invariant-parts l = record {
  below : l.turn < 8;
  sum : l.turn ≡ turns_of (take l.part-index l.made) % 8;
}
