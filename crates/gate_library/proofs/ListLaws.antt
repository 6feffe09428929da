-- Tests of the elements of lists.
--   list_any-map                 a test of what is made of elements
--   found-position, is_some-position   where the first element is that passes a test
--   among-first                  it is among the first so many
--   position-map                 an index among what is made of elements
use Rattle.std.proofs.Common.{⊎_elim, zero, suc, Bool, cond, ◌≡◌, ℕ, ◌+◌, ◌≤◌, List, [], ◌∷◌, Some, None, refl, sym, ap, ◌∙◌, ◌||◌, length, map, take, arith, true, false}
use Rattle.std.specs.Prelude.{is_some, nat_lt}
use Rattle.std.specs.List.{list_any, position, position_or_len}
use Rattle.std.proofs.lemmas.Bool.{cases_Bool}
use Rattle.std.proofs.lemmas.Bool.Decides.{nat_tests}
use Rattle.std.proofs.lemmas.List.{length-map}

pub list_any-map : {A B : Type 0} (p : B → Bool) (f : A → B) (xs : List A) → list_any p (map f xs) ≡ list_any (λ x. p (f x)) xs
list_any-map p f [] = refl
list_any-map p f (x ∷ xs) = ap (λ b. p (f x) || b) (list_any-map p f xs)

position_or_len-map : {X : Type 0} (p : List ℕ → Bool) (f : X → List ℕ) (xs : List X) → position_or_len p (map f xs) ≡ position_or_len (λ x. p (f x)) xs
position_or_len-map p f [] = refl
position_or_len-map p f (x ∷ xs) = rw (position_or_len-map p f xs)

pub position-map : {X : Type 0} (p : List ℕ → Bool) (f : X → List ℕ) (xs : List X) → position (λ x. p (f x)) xs ≡ position p (map f xs)
position-map p f xs = rw (position_or_len-map p f xs, length-map xs f) refl

pub found-position : {X : Type 0} (p : X → Bool) (xs : List X) → nat_lt (position_or_len p xs) (length xs) ≡ list_any p xs
found-position p [] = refl
found-position p (x ∷ xs) =
    ⊎_elim
    (λ y. rw y (grind (arith, nat_tests)))
    (λ n. rw n (let h : nat_lt (1 + position_or_len p xs) (suc (length xs)) ≡ nat_lt (position_or_len p xs) (length xs) = grind (arith, nat_tests) in h ∙ found-position p xs))
    (cases_Bool (p x))

is_some-cond : {X : Type 0} (b : Bool) (x : X) → is_some (cond b (Some x) None) ≡ b
is_some-cond true x = refl
is_some-cond false x = refl

pub is_some-position : {X : Type 0} (p : X → Bool) (xs : List X) → is_some (position p xs) ≡ list_any p xs
is_some-position p xs = is_some-cond _ (position_or_len p xs) ∙ found-position p xs

-- among the first n
pub among-first : {X : Type 0} (p : X → Bool) (n : ℕ) (xs : List X) → n ≤ length xs → list_any p (take n xs) ≡ nat_lt (position_or_len p xs) n
among-first p zero xs le = grind (arith, nat_tests)
among-first p (suc n) [] le = absurd (omega arith)
among-first p (suc n) (x ∷ xs) le =
    ⊎_elim
    (λ y. rw y (grind (arith, nat_tests)))
    (λ f. rw f (let h : nat_lt (1 + position_or_len p xs) (suc n) ≡ nat_lt (position_or_len p xs) n = grind (arith, nat_tests) in
    among-first p n xs (omega arith) ∙ sym h))
    (cases_Bool (p x))

pub position-found : {X : Type 0} (p : X → Bool) (xs : List X) (i : ℕ) → position p xs ≡ Some i → i ≡ position_or_len p xs
position-found p xs i e = elim (nat_lt (position_or_len p xs) (length xs)) as (λ b. cond b (Some (position_or_len p xs)) None ≡ Some i → i ≡ position_or_len p xs) [
  | true ↦ λ e. cc
  | false ↦ λ e. cc
] e
