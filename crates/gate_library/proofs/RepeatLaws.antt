-- Lists in which something stands twice, and sets of names.
--   has_repeat-push      one more element
--   repeat_found         the next element stands among those before it
--   repeat_none          it doesn't
--   set_more             a set of the elements, with the next one
--   is_in-updates, contains-updates   a set of names or numbers after a change
--   has_repeat-names     names behind references
use Rattle.std.specs.Prelude.{nat_eq, not}
use Rattle.std.specs.List.{list_any}
use Rattle.std.specs.Str.{bytes_eq}
use Rattle.std.specs.Ordering.{nat_cmp}
use Rattle.std.specs.Cmp.Lexicographic.{slice_cmp}
use Rattle.std.specs.BTreeSet as sorted
use denote.Ref.{Bor}
use Rattle.std.proofs.Common.{◌≡◌, ℕ, ◌+◌, ◌<◌, List, [], ◌∷◌, ◌++◌, Bool, true, false, cond, ◌||◌, refl, sym, ap, subst, ◌∙◌, length, take, drop, map, get_or, ⊎_elim}
use Rattle.std.proofs.lemmas.Bool.{cases_Bool}
use Rattle.std.proofs.lemmas.Grind.{take_at_read}
use Rattle.std.proofs.lemmas.List.Folds.{list_any-append}
use Rattle.std.proofs.lemmas.Map.Text.{is_eq-slice_cmp}
use Rattle.std.proofs.lemmas.List.{take-append-drop}
use Rattle.std.specs.Cmp.{unsigned_tied}
use Rattle.gate_library.proofs.ListLaws.{list_any-map}
use Rattle.gate_library.specs.Names.{has_repeat}
use Rattle.gate_library.specs.Views.{is_in}

or_left : (a b : Bool) → a ≡ true → (a || b) ≡ true
or_left a b e = rw e refl

or_right : (a b : Bool) → b ≡ true → (a || b) ≡ true
or_right true b e = refl
or_right false b e = e

regroup : (a b c d : Bool) → ((a || (b || false)) || (c || d)) ≡ ((a || c) || (b || d))
regroup true b c d = refl
regroup false true true d = refl
regroup false true false d = refl
regroup false false c d = refl

pub has_repeat-push : {A : Type 0} (same : A → A → Bool) → ((x y : A) → same x y ≡ same y x) → (xs : List A) (x : A)
    → has_repeat same (xs ++ x ∷ []) ≡ (has_repeat same xs || list_any (same x) xs)
has_repeat-push same flips [] x = refl
has_repeat-push same flips (y ∷ ys) x =
    ap (λ b. b || has_repeat same (ys ++ x ∷ [])) (list_any-append (same y) ys (x ∷ []))
    ∙ ap (λ b. (list_any (same y) ys || (same y x || false)) || b) (has_repeat-push same flips ys x)
    ∙ ap (λ b. (list_any (same y) ys || (b || false)) || (has_repeat same ys || list_any (same x) ys)) (flips y x)
    ∙ regroup (list_any (same y) ys) (same x y) (has_repeat same ys) (list_any (same x) ys)

has_repeat-front : {A : Type 0} (same : A → A → Bool) (xs ys : List A) → has_repeat same xs ≡ true → has_repeat same (xs ++ ys) ≡ true
has_repeat-front same [] ys e = cc
has_repeat-front same (x ∷ xs) ys e =
    ⊎_elim
    (λ y. or_left _ _ (list_any-append (same x) xs ys ∙ or_left _ _ y))
    (λ n. or_right _ _ (has_repeat-front same xs ys (rw n at e)))
    (cases_Bool (list_any (same x) xs))

pub repeat_found : {A : Type 0} (same : A → A → Bool) → ((x y : A) → same x y ≡ same y x) → (xs : List A) (i : ℕ) (d : A)
    → i < length xs → list_any (same (get_or xs i d)) (take i xs) ≡ true → true ≡ has_repeat same xs
repeat_found same flips xs i d lt e =
    let more : has_repeat same (take (i + 1) xs) ≡ true =
    ap (has_repeat same) (take_at_read xs i d lt).1 ∙ has_repeat-push same flips (take i xs) (get_or xs i d) ∙ or_right _ _ e in
    sym (subst (λ ys. has_repeat same ys ≡ true) (take-append-drop (i + 1) xs) (has_repeat-front same (take (i + 1) xs) (drop (i + 1) xs) more))

pub repeat_none : {A : Type 0} (same : A → A → Bool) → ((x y : A) → same x y ≡ same y x) → (xs : List A) (i : ℕ) (d : A)
    → i < length xs → has_repeat same (take i xs) ≡ false → list_any (same (get_or xs i d)) (take i xs) ≡ false
    → has_repeat same (take (i + 1) xs) ≡ false
repeat_none same flips xs i d lt none e =
    ap (has_repeat same) (take_at_read xs i d lt).1 ∙ has_repeat-push same flips (take i xs) (get_or xs i d)
    ∙ ap (λ b. b || list_any (same (get_or xs i d)) (take i xs)) none ∙ e

cond-or : (a b : Bool) → cond a true b ≡ (b || (a || false))
cond-or true true = refl
cond-or true false = refl
cond-or false true = refl
cond-or false false = refl

pub set_more : {A : Type 0} (same : A → A → Bool) → ((x y : A) → same x y ≡ same y x) → (xs : List A) (i : ℕ) (d : A) (q : A) (old new : Bool)
    → i < length xs → old ≡ list_any (same q) (take i xs) → new ≡ cond (same (get_or xs i d) q) true old
    → new ≡ list_any (same q) (take (i + 1) xs)
set_more same flips xs i d q old new lt before now =
    now ∙ cond-or (same (get_or xs i d) q) old
    ∙ ap (λ b. b || (same (get_or xs i d) q || false)) before
    ∙ ap (λ b. list_any (same q) (take i xs) || (b || false)) (flips (get_or xs i d) q)
    ∙ sym (ap (list_any (same q)) (take_at_read xs i d lt).1 ∙ list_any-append (same q) (take i xs) (get_or xs i d ∷ []))

-- ---- sets of names
unfoldable pub key : List ℕ → Bor (List ℕ)
key name = record { ref_ptr = (0, 0); now = name }

pub is_in-updates : (name : List ℕ) (m n : sorted.BTreeSet (Bor (List ℕ)))
    → sorted.UpdatesBy (λ x y. slice_cmp nat_cmp x.now y.now) (λ k. slice_cmp nat_cmp name k.now) m n true
    → (q : List ℕ) → is_in n q ≡ cond (bytes_eq name q) true (is_in m q)
unfolding key
is_in-updates name m n h q = h.0 (key q) ∙ ap (λ b. cond b true (is_in m q)) (is_eq-slice_cmp name q)

pub contains-updates : (x : ℕ) (m n : sorted.BTreeSet ℕ) → sorted.Updates nat_cmp m n x true
    → (q : ℕ) → sorted.contains nat_cmp n q ≡ cond (nat_eq x q) true (sorted.contains nat_cmp m q)
contains-updates x m n h q = h.0 q ∙ ap (λ b. cond b true (sorted.contains nat_cmp m q)) (unsigned_tied x q)

-- ---- places
pub has_repeat-map : {A B : Type 0} (same : B → B → Bool) (f : A → B) (xs : List A) → has_repeat same (map f xs) ≡ has_repeat (λ x y. same (f x) (f y)) xs
has_repeat-map same f [] = refl
has_repeat-map same f (x ∷ xs) = ap (λ b. b || has_repeat same (map f xs)) (list_any-map (same (f x)) f xs)
    ∙ ap (λ b. list_any (λ y. same (f x) (f y)) xs || b) (has_repeat-map same f xs)

pub was_true : (b added : Bool) → added ≡ not b → added ≡ false → b ≡ true
was_true true added e f = refl
was_true false added e f = cc

pub was_false : (b added : Bool) → added ≡ not b → added ≡ true → b ≡ false
was_false true added e f = cc
was_false false added e f = refl

-- names behind references
pub has_repeat-names : (xs : List (Bor (List ℕ))) → has_repeat (λ x y. bytes_eq x.now y.now) xs ≡ has_repeat bytes_eq (map (λ x. x.now) xs)
has_repeat-names xs = sym (has_repeat-map bytes_eq (λ (x : Bor (List ℕ)). x.now) xs)

pub ruleset names_repeating = (has_repeat-names)
