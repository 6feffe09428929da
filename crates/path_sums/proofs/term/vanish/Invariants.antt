-- What was gathered, with the terms that are left, is all.
use Rattle.std.proofs.Common.{◌≡◌, ◌+◌, ◌%◌, All, drop, map}
use Rattle.unitary_model.specs.Acts.{Bits}
use Rattle.path_parity.specs.PathFunctions.{phase}
use Rattle.path_sums.specs.Gathering.{with_half}
use Rattle.path_sums.specs.Terms.{IsTerm, term_of}
use Rattle.path_sums.specs.Words.{AreAscending}
use Rattle.path_sums.proofs.term.vanish.Given as goal

abbrev pub invariant-terms : goal.invariant-terms
invariant-terms l = record {
  same : (v : Bits) → (phase (with_half l.gathered.terms.items l.gathered.half.items) v + phase (map term_of (drop l.term-index l.terms)) v) % 8 ≡ phase (map term_of l.terms) v % 8;
  terms : All IsTerm l.gathered.terms.items;
  half : AreAscending l.gathered.half.items;
}
