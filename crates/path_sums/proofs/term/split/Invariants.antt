-- What was made of the terms so far, with what will be made of those that are left, is what is made of all.
use Rattle.std.proofs.Common.{◌≡◌, ◌+◌, ◌%◌, ◌<◌, ◌≤◌, All, length, map}
use Rattle.unitary_model.specs.Acts.{Bits}
use Rattle.path_parity.specs.PathFunctions.{phase}
use Rattle.path_sums.specs.Gathering.{gathered_size, with_half}
use Rattle.path_sums.specs.Terms.{IsTerm, term_of}
use Rattle.path_sums.specs.Vanishing.{moved_sets, twice, with_variable}
use Rattle.path_sums.specs.Words.{AreAscending, words_set}
use Rattle.path_sums.proofs.term.split.Given as goal

abbrev pub invariant-terms : goal.invariant-terms
invariant-terms l = record {
  small : l.sum < 8;
  sum : (l.sum + with_variable l.variable (map term_of l.rest.items)) % 8 ≡ (l.first.k + with_variable l.variable (map term_of l.fn.terms.items)) % 8;
  doubled : (v : Bits) → (phase (with_half l.gathered.terms.items l.gathered.half.items) v + phase (twice (words_set l.first.set.items) l.variable (map term_of l.rest.items)) v) % 8
      ≡ phase (twice (words_set l.first.set.items) l.variable (map term_of l.fn.terms.items)) v % 8;
  left : (v : Bits) → phase (map term_of l.left.items) v + phase (moved_sets (words_set l.first.set.items) l.variable (map term_of l.rest.items)) v
      ≡ phase (moved_sets (words_set l.first.set.items) l.variable (map term_of l.fn.terms.items)) v;
  rest_terms : All IsTerm l.rest.items;
  left_terms : All IsTerm l.left.items;
  doubled_terms : All IsTerm l.gathered.terms.items;
  half : AreAscending l.gathered.half.items;
  shorter : gathered_size l.gathered.terms.items l.gathered.half.items + length l.rest.items ≤ length l.fn.terms.items;
  long : length l.left.items + length l.rest.items ≡ length l.fn.terms.items;
}

abbrev pub decreases-terms : goal.decreases-terms
decreases-terms l = length l.rest.items
