-- One more element of a list, as at a step of a loop.
--   filter_map_some, filter_map_none   by what is made of it
--   list_any-map                       a test of what is made of elements
--   list_any_more, filter_map_more     by the next element, whatever it is;  list_any_step, list_any_item, filter_map_step: as a loop has it
--   drop_read                          the elements from one on
--   loops                              these and the like
use Rattle.std.proofs.Common.{◌≡◌, ℕ, ◌+◌, ◌<◌, true, false, sym, List, [], ◌∷◌, ◌++◌, Option, Some, None, ap, ◌∙◌, refl, length, drop, take, get_or, add-one}
use Rattle.std.proofs.Math.Seq.{drop-cons}
use Rattle.std.specs.List.{filter_map, list_any}
use Rattle.std.specs.Option.{option_to_list}
use Rattle.std.proofs.lemmas.List.Folds.{list_any-append}
use Rattle.std.proofs.lemmas.List.Elements.{filter_map-append, filter_more}
use Rattle.std.proofs.lemmas.List.{append-nil, map_more}
use Rattle.std.proofs.lemmas.Simd.{map-map}
use Rattle.std.proofs.lemmas.Grind.{take_at_read}
use Rattle.std.proofs.Common.{Bool, ◌||◌, map}

pub list_any-map : {A B : Type 0} (p : B → Bool) (f : A → B) (xs : List A) → list_any p (map f xs) ≡ list_any (λ x. p (f x)) xs
list_any-map p f [] = refl
list_any-map p f (x ∷ xs) = ap (λ b. p (f x) || b) (list_any-map p f xs)

one_some : {X Y : Type 0} (h : X → Option Y) (x : X) (y : Y) → h x ≡ Some y → filter_map h (x ∷ []) ≡ y ∷ []
one_some h x y e = rw e

one_none : {X Y : Type 0} (h : X → Option Y) (x : X) → h x ≡ None → filter_map h (x ∷ []) ≡ []
one_none h x e = rw e

pub filter_map_some : {X Y : Type 0} (h : X → Option Y) (xs : List X) (i : ℕ) (d : X) (y : Y) → i < length xs → h (get_or xs i d) ≡ Some y
    → filter_map h (take (i + 1) xs) ≡ filter_map h (take i xs) ++ y ∷ []
filter_map_some h xs i d y lt e =
    ap (filter_map h) (take_at_read xs i d lt).1 ∙ filter_map-append h (take i xs) (get_or xs i d ∷ [])
    ∙ ap (λ ys. filter_map h (take i xs) ++ ys) (one_some h (get_or xs i d) y e)

pub filter_map_none : {X Y : Type 0} (h : X → Option Y) (xs : List X) (i : ℕ) (d : X) → i < length xs → h (get_or xs i d) ≡ None
    → filter_map h (take (i + 1) xs) ≡ filter_map h (take i xs)
filter_map_none h xs i d lt e =
    ap (filter_map h) (take_at_read xs i d lt).1 ∙ filter_map-append h (take i xs) (get_or xs i d ∷ [])
    ∙ ap (λ ys. filter_map h (take i xs) ++ ys) (one_none h (get_or xs i d) e) ∙ append-nil _

or_false : (b : Bool) → (b || false) ≡ b
or_false true = refl
or_false false = refl

pub list_any_more : {A : Type 0} (p : A → Bool) (xs : List A) (i : ℕ) (d : A) → i < length xs
    → list_any p (take (i + 1) xs) ≡ (list_any p (take i xs) || p (get_or xs i d))
list_any_more p xs i d lt =
    ap (list_any p) (take_at_read xs i d lt).1 ∙ list_any-append p (take i xs) (get_or xs i d ∷ [])
    ∙ ap (λ b. list_any p (take i xs) || b) (or_false (p (get_or xs i d)))

one_listed : {X Y : Type 0} (o : Option Y) (h : X → Option Y) (x : X) → h x ≡ o → filter_map h (x ∷ []) ≡ option_to_list o
one_listed (Some y) h x e = rw e
one_listed None h x e = rw e

pub filter_map_more : {X Y : Type 0} (h : X → Option Y) (xs : List X) (i : ℕ) (d : X) → i < length xs
    → filter_map h (take (i + 1) xs) ≡ filter_map h (take i xs) ++ option_to_list (h (get_or xs i d))
filter_map_more h xs i d lt =
    ap (filter_map h) (take_at_read xs i d lt).1 ∙ filter_map-append h (take i xs) (get_or xs i d ∷ [])
    ∙ ap (λ ys. filter_map h (take i xs) ++ ys) (one_listed (h (get_or xs i d)) h (get_or xs i d) refl)

pub list_any_step : {A : Type 0} (p : A → Bool) (xs : List A) (i : ℕ) (x : A) (b c : Bool) → i < length xs → x ≡ get_or xs i x
    → b ≡ list_any p (take i xs) → c ≡ p x → (b || c) ≡ list_any p (take (i + 1) xs)
list_any_step p xs i x b c lt is before now =
    ap (λ y. y || c) before ∙ ap (λ y. list_any p (take i xs) || y) (now ∙ ap p is) ∙ sym (list_any_more p xs i x lt)

pub list_any_item : {A B : Type 0} (p : B → Bool) (f : A → B) (xs : List A) (i : ℕ) (x : A) (b c : Bool) → i < length xs → x ≡ get_or xs i x
    → b ≡ list_any p (map f (take i xs)) → c ≡ p (f x) → (b || c) ≡ list_any p (map f (take (i + 1) xs))
list_any_item p f xs i x b c lt is before now =
    list_any_step (λ y. p (f y)) xs i x b c lt is (before ∙ list_any-map p f (take i xs)) now ∙ sym (list_any-map p f (take (i + 1) xs))

pub filter_map_step : {X Y : Type 0} (h : X → Option Y) (xs : List X) (i : ℕ) (x : X) (ys zs : List Y) (o : Option Y) → i < length xs
    → x ≡ get_or xs i x → ys ≡ filter_map h (take i xs) → o ≡ h x → zs ≡ ys ++ option_to_list o → zs ≡ filter_map h (take (i + 1) xs)
filter_map_step h xs i x ys zs o lt is before now after =
    after ∙ ap (λ vs. vs ++ option_to_list o) before ∙ ap (λ y. filter_map h (take i xs) ++ option_to_list y) (now ∙ ap h is)
    ∙ sym (filter_map_more h xs i x lt)

pub drop_read : {A : Type 0} (xs : List A) (i : ℕ) (d : A) → i < length xs → drop i xs ≡ get_or xs i d ∷ drop (i + 1) xs
drop_read xs i d lt = rw (add-one, drop-cons xs i d)

pub ruleset loops = (filter_map_some, filter_map_none, filter_more, map_more)

pub ruleset tests = (list_any-map, map-map, map_more)
