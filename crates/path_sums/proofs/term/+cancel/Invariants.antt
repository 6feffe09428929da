use Rattle.std.proofs.Common.{◌≤◌, ◌↔◌, All, length, map}
use Rattle.path_parity.specs.PathFunctions.{Vanishes}
use Rattle.path_sums.specs.Terms.{IsTerm, term_of}
use Rattle.path_sums.proofs.term.+cancel.Given as goal

abbrev pub decreases-cancel : goal.decreases-cancel
decreases-cancel l = length l.terms.items

-- the terms that are left vanish exactly where all do
abbrev pub invariant-terms : goal.invariant-terms
invariant-terms l = record {
  shorter : length l.rest.items ≤ length l.fn.terms.items;
  terms : All IsTerm l.rest.items;
  same : Vanishes (map term_of l.rest.items) ↔ Vanishes (map term_of l.fn.terms.items);
}

abbrev pub decreases-terms : goal.decreases-terms
decreases-terms l = length l.rest.items
