use Rattle.std.proofs.Common.{◌≡◌, ℕ, Bool, ◌++◌, ◌∷◌, ◌∙◌, [], List, length, map, true, false, ap, arith, sym, length-append}
use Rattle.std.specs.Int.{bit_at}
use Rattle.std.specs.Prelude.{IsTrue, vec_len}
use Rattle.std.proofs.lemmas.List.{nil_from_length}
use Rattle.std.proofs.lemmas.Bool.{eqb-true}
use Rattle.path_parity.specs.PathFunctions.{Vanishes}
use Rattle.path_sums.specs.declared.term.Term.{Term}
use Rattle.path_sums.specs.Terms.{term_of}
use Rattle.path_sums.specs.Vanishing.{twice}
use Rattle.path_sums.specs.Words.{words_set}
use Rattle.path_sums.proofs.TermLaws.{all-but_last, both_ways, carried, carried_back, of-all, same-empty, same-split}
use Rattle.path_sums.proofs.term.+cancel.Goals as goal
use Rattle.path_sums.proofs.term.+cancel.Goals.{then-sum-ne0-via-then-sum-ne0, then-sum-ne0-via-else-sum-ne0+in_ok-cancel+then-not-branch}

none : (b : Bool) → b ≡ false → IsTrue b → ⊥
none true e h = absurd (cc)
none false e h = absurd (cc)

yes : (b : Bool) → b ≡ true → IsTrue b
yes b e = e

pub terms-preserved-then-is_empty : goal.terms-preserved-then-is_empty
terms-preserved-then-is_empty t c =
    let ts : List Term = c.pop.new.self.items in
    let old : List Term = c.terms.rest.items in
    let x : Term = c.in-Some.first in
    let items : old ≡ ts ++ x ∷ [] = c.in-Some.ensures.items in
    record {
      shorter = omega (arith, ap length items, length-append ts (x ∷ []), c.terms.invariant.shorter);
      terms = all-but_last ts old x items c.terms.invariant.terms;
      same = both_ways (Vanishes (map term_of ts)) (Vanishes (map term_of old)) (Vanishes (map term_of c.args.terms.items))
          (same-empty ts old x items (nil_from_length x.set.items (sym x.set.ok.0 ∙ eqb-true (vec_len x.set) 0 (sym c.is_empty.ensures ∙ c.if-is_empty.true))))
          c.terms.invariant.same;
    }

pub returns-then-sum-ne0 : goal.returns-then-sum-ne0
returns-then-sum-ne0 t c =
    let ts : List Term = c.pop.new.self.items in
    let old : List Term = c.terms.rest.items in
    let x : Term = c.in-Some.first in
    let p : ℕ = c.variable_of-variable.result in
    let there : bit_at (words_set x.set.items) p ≡ 1 = sym (ap (λ ws. bit_at (words_set ws) p) c.deref.ensures.value) ∙ c.variable_of-variable.ensures in
    record {
      exact = (
        λ e. absurd (cc),
        λ h. let parts = of-all ts old x p c.in-Some.ensures.items there (c.terms.invariant.same.1 h) in elim c.then-sum-ne0.branch [
          | then-sum-ne0-via-then-sum-ne0 w ↦ absurd (w.if-sum-ne0.true (c.in_ok-sum.ensures.sum ∙ parts.sum))
          | then-sum-ne0-via-else-sum-ne0+in_ok-cancel+then-not-branch w ↦ absurd (none w.in_ok-cancel.field-0 w.if-not-branch.true
              (w.in_ok-cancel.ensures.exact.1 (carried_back (map term_of c.in_ok-sum.field-0.doubled.items) (twice (words_set x.set.items) p (map term_of ts)) c.in_ok-sum.ensures.doubled parts.doubled)))
        ],
      );
    }

pub terms-preserved : goal.terms-preserved
terms-preserved t c =
    let ts : List Term = c.pop.new.self.items in
    let old : List Term = c.terms.rest.items in
    let x : Term = c.in-Some.first in
    let p : ℕ = c.variable_of-variable.result in
    let items : old ≡ ts ++ x ∷ [] = c.in-Some.ensures.items in
    let there : bit_at (words_set x.set.items) p ≡ 1 = sym (ap (λ ws. bit_at (words_set ws) p) c.deref.ensures.value) ∙ c.variable_of-variable.ensures in
    record {
      shorter = omega (arith, c.in_ok-sum.ensures.long, ap length items, length-append ts (x ∷ []), c.terms.invariant.shorter);
      terms = c.in_ok-sum.ensures.left_terms;
      same = both_ways (Vanishes (map term_of c.in_ok-sum.field-0.left.items)) (Vanishes (map term_of old)) (Vanishes (map term_of c.args.terms.items))
          (same-split ts old x p (map term_of c.in_ok-sum.field-0.left.items) items there (sym c.in_ok-sum.ensures.sum ∙ c.if-sum-ne0.false)
          (carried (map term_of c.in_ok-sum.field-0.doubled.items) (twice (words_set x.set.items) p (map term_of ts)) c.in_ok-sum.ensures.doubled (c.in_ok-cancel.ensures.exact.0 (yes c.in_ok-cancel.field-0 c.if-not-branch.false)))
          c.in_ok-sum.ensures.left)
          c.terms.invariant.same;
    }
