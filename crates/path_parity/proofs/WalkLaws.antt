-- Labels in a list as the labels of all wires.
--     labels-set              one label of the list changed
--     labels-none, labels-more    each wire's own variable: of no wire, of one more
--     labels-get, walk-set    one label of a walk, and one changed
use Rattle.std.proofs.Common.{◌≡◌, ℕ, zero, suc, ◌+◌, ◌^◌, ◌<◌, ◌≤◌, true, false, cond, List, [], ◌∷◌, ◌++◌, map, set, length, get_or, refl, sym, ◌∙◌, ap, arith, ◌⊎◌, inl, inr, length-append}
use Rattle.std.proofs.lemmas.Bool.{cases_lt}
use Rattle.std.proofs.lemmas.List.{get_or_append_left, get_or_past, get_or-map, length-map}
use Rattle.std.proofs.Math.Seq.{get_or-append_seam}
use Rattle.std.proofs.Math.Path.{fun_ext}
use Rattle.std.specs.Prelude.{nat_eq, nat_lt}
use Rattle.std.proofs.lemmas.Bool.Decides.{nat_tests}
use Rattle.path_parity.specs.PathSum.{PathLabel, label, with_label, fresh, own_labels}
use Rattle.path_parity.specs.LabelWalks.{LabelWalk, labels_of_list, labels_at}

pub labels-set : {X : Type 0} (f : X → PathLabel) (xs : List X) (q : ℕ) (x : X) → q < length xs → labels_of_list (map f (set xs q x)) ≡ with_label (labels_of_list (map f xs)) q (f x)
labels-set f xs q x h = fun_ext (λ p. at f xs q x p h)
  where
    here : (q : ℕ) → nat_eq (suc q) 0 ≡ false
    here q = grind (arith, nat_tests)

    there : (q : ℕ) → nat_eq 0 (suc q) ≡ false
    there q = grind (arith, nat_tests)

    same : (p q : ℕ) → nat_eq p q ≡ nat_eq (suc p) (suc q)
    same p q = grind (arith, nat_tests)

    at : {X : Type 0} (f : X → PathLabel) (xs : List X) (q : ℕ) (x : X) (p : ℕ) → q < length xs → get_or (map f (set xs q x)) p (label 0 false) ≡ cond (nat_eq p q) (f x) (get_or (map f xs) p (label 0 false))
    at f [] q x p h = absurd (omega arith)
    at f (y ∷ ys) zero x zero h = refl
    at f (y ∷ ys) zero x (suc p) h = λ i. cond (sym (here p) i) (f x) (get_or (map f ys) p (label 0 false))
    at f (y ∷ ys) (suc q) x zero h = λ i. cond (sym (there q) i) (f x) (f y)
    at f (y ∷ ys) (suc q) x (suc p) h = at f ys q x p (omega arith) ∙ (λ i. cond (same p q i) (f x) (get_or (map f ys) p (label 0 false)))

pub labels-none : labels_of_list [] ≡ own_labels 0
labels-none = fun_ext (λ q. none q)
  where
    never : (q : ℕ) → nat_lt q 0 ≡ false
    never q = grind (arith, nat_tests)

    none : (q : ℕ) → label 0 false ≡ own_labels 0 q
    none q = λ i. label (cond (sym (never q) i) (2 ^ q) 0) false

pub labels-more : (ls : List PathLabel) (n : ℕ) (l : PathLabel) → length ls ≡ n → l ≡ fresh n → labels_of_list ls ≡ own_labels n → labels_of_list (ls ++ l ∷ []) ≡ own_labels (n + 1)
labels-more ls n l h e g = fun_ext (λ q. go q (cases_lt q n) (cases_lt n q))
  where
    below : (q : ℕ) → q < n → nat_lt q n ≡ true
    below q lt = grind (arith, nat_tests)

    below_next : (q : ℕ) → q ≤ n → nat_lt q (n + 1) ≡ true
    below_next q le = grind (arith, nat_tests)

    behind : (q : ℕ) → n < q → nat_lt q (n + 1) ≡ false
    behind q lt = grind (arith, nat_tests)

    only : (q : ℕ) → n ≤ q → q ≤ n → q ≡ length ls
    only q a b = omega (arith, h)

    go : (q : ℕ) → (q < n) ⊎ (n ≤ q) → (n < q) ⊎ (q ≤ n) → get_or (ls ++ l ∷ []) q (label 0 false) ≡ own_labels (n + 1) q
    go q (inl lt) d = get_or_append_left ls (l ∷ []) (label 0 false) q (omega (arith, h, lt)) ∙ (λ i. g i q)
        ∙ (λ i. label (cond (below q lt i) (2 ^ q) 0) false) ∙ sym (λ i. label (cond (below_next q (omega arith) i) (2 ^ q) 0) false)
    go q (inr le) (inl lt) = get_or_past (ls ++ l ∷ []) q (label 0 false) (omega (arith, length-append ls (l ∷ []), h, lt)) ∙ sym (λ i. label (cond (behind q lt i) (2 ^ q) 0) false)
    go q (inr a) (inr b) = ap (λ k. get_or (ls ++ l ∷ []) k (label 0 false)) (only q a b) ∙ get_or-append_seam ls l [] (label 0 false) ∙ e ∙ ap fresh (sym h ∙ sym (only q a b))
        ∙ sym (λ i. label (cond (below_next q b i) (2 ^ q) 0) false)

pub labels-get : {X : Type 0} (f : X → PathLabel) (xs : List X) (w : LabelWalk) (q : ℕ) (x : X) → map f xs ≡ w.labels → q < length w.labels → x ≡ get_or xs q x → f x ≡ labels_at w q
labels-get f xs w q x e h g = ap f g ∙ sym (get_or-map f xs q x (label 0 false) (omega (arith, h, ap (λ (ls : List PathLabel). length ls) e, length-map xs f))) ∙ (λ i. labels_of_list (e i) q)

-- one label of a walk changed
pub walk-set : {X : Type 0} (f : X → PathLabel) (xs : List X) (w : LabelWalk) (q : ℕ) (x : X) (l : PathLabel) → map f xs ≡ w.labels → q < length w.labels → f x ≡ l → labels_of_list (map f (set xs q x)) ≡ with_label (labels_at w) q l
walk-set f xs w q x l e h g = labels-set f xs q x (omega (arith, h, ap (λ (ls : List PathLabel). length ls) e, length-map xs f)) ∙ (λ i. with_label (labels_of_list (e i)) q (g i))
