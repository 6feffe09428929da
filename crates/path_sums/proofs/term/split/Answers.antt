-- One term less is left, and looks at the variable or doesn't.
use Rattle.std.proofs.Common.{◌≡◌, ℕ, ◌+◌, ◌*◌, ◌%◌, ◌++◌, ◌∷◌, [], ◌∙◌, All, List, cond, length, map, true, false, ap, arith, subst, sym, length-append}
use Rattle.std.specs.Prelude.{bit_xor}
use Rattle.std.proofs.lemmas.List.Elements.{All-push}
use Rattle.unitary_model.specs.Acts.{Bits}
use Rattle.path_parity.specs.PathFunctions.{phase}
use Rattle.path_sums.specs.declared.term.Gathered.{Gathered}
use Rattle.path_sums.specs.declared.term.Term.{Term}
use Rattle.path_sums.specs.Gathering.{gathered_size, with_half}
use Rattle.path_sums.specs.Terms.{IsTerm, term_of}
use Rattle.path_sums.specs.Vanishing.{has_variable, moved_sets, twice, with_variable}
use Rattle.path_sums.specs.Words.{AreAscending, words_set}
use Rattle.path_sums.proofs.TermLaws.{all-but_last, doubled-with, doubled-without, left-step, sum-with, sum-without}
use Rattle.path_sums.proofs.term.split.Goals as goal
use Rattle.path_sums.proofs.term.split.Goals.{then-branch+in_ok-add, else-branch}

longer : (old new : List Term) (x : Term) → new ≡ old ++ x ∷ [] → length new ≡ length old + 1
longer old new x e = ap length e ∙ length-append old (x ∷ [])

pub terms-preserved : goal.terms-preserved
terms-preserved c =
    let ts : List Term = c.pop.new.self.items in
    let old : List Term = c.terms.rest.items in
    let all : List Term = c.args.terms.items in
    let x : Term = c.in-Some.term in
    let y : Term = c.take_out.new.term in
    let p : ℕ = c.args.variable in
    let s : ℕ = words_set c.args.first.now.set.items in
    let X : ℕ = words_set x.set.items in
    let inv = c.terms.invariant in
    let items : old ≡ ts ++ x ∷ [] = c.in-Some.ensures.items in
    let less : length old ≡ length ts + 1 = longer ts old x items in
    let set : words_set y.set.items ≡ cond (has_variable p X) (bit_xor X s) X = c.in_ok-take_out.ensures.set ∙ ap (λ ws. cond (has_variable p X) (bit_xor X (words_set ws)) X) c.deref.ensures.value in
    let same : y.k ≡ x.k = c.in_ok-take_out.ensures.k in
    let pushed : c.push.new.self.items ≡ c.terms.left.items ++ y ∷ [] = c.in_ok-push.ensures.items in
    let more : length c.push.new.self.items ≡ length c.terms.left.items + 1 = longer c.terms.left.items c.push.new.self.items y pushed in
    let left : (v : Bits) → phase (map term_of c.push.new.self.items) v + phase (moved_sets s p (map term_of ts)) v ≡ phase (moved_sets s p (map term_of all)) v =
    left-step s p ts old x y c.terms.left.items c.push.new.self.items (moved_sets s p (map term_of all)) items set same pushed inv.left in
    let left_terms : All IsTerm c.push.new.self.items = subst (All IsTerm) (sym pushed) (All-push IsTerm c.terms.left.items y inv.left_terms c.in_ok-take_out.ensures.words) in
    let rest_terms : All IsTerm ts = all-but_last ts old x items inv.rest_terms in
    elim c.if-branch.branch [
      | then-branch+in_ok-add w ↦
          let has : has_variable p X ≡ true = sym c.in_ok-take_out.ensures.had ∙ w.if-branch.true in
          let g : Gathered = w.add.new.gathered in
          record {
            small = omega (arith, w.sum-is);
            sum = sum-with p ts old x c.terms.sum c.if-branch.sum _ items has (w.sum-is ∙ ap (λ k. (c.terms.sum + k % 8) % 8) same) inv.sum;
            doubled = subst (λ (z : Gathered). (v : Bits) → (phase (with_half z.terms.items z.half.items) v + phase (twice s p (map term_of ts)) v) % 8 ≡ phase (twice s p (map term_of all)) v % 8) (sym w.gathered-is)
                (doubled-with s p ts old x (with_half c.terms.gathered.terms.items c.terms.gathered.half.items) (with_half g.terms.items g.half.items) (words_set w.deref-then-branch.result.now) (y.k % 4 * 2)
                (twice s p (map term_of all)) items has (ap words_set w.deref-then-branch.ensures.value ∙ set ∙ (λ i. cond (has i) (bit_xor X s) X)) (ap (λ k. k % 4 * 2) same) w.in_ok-add.ensures.adds inv.doubled);
            left = left;
            rest_terms = rest_terms;
            left_terms = left_terms;
            doubled_terms = subst (λ (z : Gathered). All IsTerm z.terms.items) (sym w.gathered-is) w.in_ok-add.ensures.terms;
            half = subst (λ (z : Gathered). AreAscending z.half.items) (sym w.gathered-is) w.in_ok-add.ensures.half;
            shorter = omega (arith, ap (λ (z : Gathered). gathered_size z.terms.items z.half.items) w.gathered-is, w.in_ok-add.ensures.size, less, inv.shorter);
            long = omega (arith, more, less, inv.long);
          }
      | else-branch w ↦
          let has : has_variable p X ≡ false = sym c.in_ok-take_out.ensures.had ∙ w.if-branch.false in
          record {
            small = omega (arith, w.sum-is, inv.small);
            sum = (λ i. (w.sum-is i + with_variable p (map term_of ts)) % 8) ∙ sum-without p ts old x c.terms.sum _ items has inv.sum;
            doubled = subst (λ (z : Gathered). (v : Bits) → (phase (with_half z.terms.items z.half.items) v + phase (twice s p (map term_of ts)) v) % 8 ≡ phase (twice s p (map term_of all)) v % 8) (sym w.gathered-is)
                (doubled-without s p ts old x (with_half c.terms.gathered.terms.items c.terms.gathered.half.items) (twice s p (map term_of all)) items has inv.doubled);
            left = left;
            rest_terms = rest_terms;
            left_terms = left_terms;
            doubled_terms = subst (λ (z : Gathered). All IsTerm z.terms.items) (sym w.gathered-is) inv.doubled_terms;
            half = subst (λ (z : Gathered). AreAscending z.half.items) (sym w.gathered-is) inv.half;
            shorter = omega (arith, ap (λ (z : Gathered). gathered_size z.terms.items z.half.items) w.gathered-is, less, inv.shorter);
            long = omega (arith, more, less, inv.long);
          }
    ]
