-- What stands on the terms so far, and on the sets that are left, is what stands on all.
use Rattle.std.proofs.Common.{◌≡◌, ◌+◌, All, drop, map}
use Rattle.unitary_model.specs.Acts.{Bits}
use Rattle.path_parity.specs.PathFunctions.{phase}
use Rattle.path_sums.specs.Sums.{sums_of}
use Rattle.path_sums.specs.Terms.{IsTerm, term_of}
use Rattle.path_sums.proofs.rows.terms_of.Given as goal

abbrev pub invariant-sets : goal.invariant-sets
invariant-sets l = record {
  same : (u : Bits) → phase (map term_of l.terms.items) u + phase (sums_of (drop l.index l.sets.entries)) u ≡ phase (sums_of l.sets.entries) u;
  terms : All IsTerm l.terms.items;
}
