-- The gates of the first parts.
use Rattle.std.proofs.Common.{◌≡◌, map, take}
use Rattle.program_parts.specs.Cuts.{whole}
use Rattle.circuit_target.proofs.parts.joined.Given as goal

abbrev pub invariant-parts : goal.invariant-parts
invariant-parts l = record {
  wires : l.body.wires ≡ l.size;
  gates : l.body.gates ≡ whole (map (λ m. m.body.gates) (take l.part-index l.made));
}
