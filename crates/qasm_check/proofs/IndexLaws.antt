-- Indices of names, with one more name.
--   index_kept      the name stands among those before it
--   index_added     it doesn't, and is put there
use Rattle.std.specs.Prelude.{is_some, nat_lt, not}
use Rattle.std.specs.List.{list_any, position, position_or_len}
use Rattle.std.specs.Str.{bytes_eq}
use Rattle.std.specs.Cmp.Lexicographic.{nat_list_eq_equiv}
use Rattle.std.proofs.Common.{◌≡◌, ℕ, ◌+◌, ◌≤◌, add-zero, eqb, List, [], ◌∷◌, ◌++◌, Option, Some, Bool, true, false, cond, refl, sym, ap, subst, ◌∙◌, length, arith, ⊎_elim}
use Rattle.std.proofs.lemmas.Bool.{cases_Bool}
use Rattle.std.proofs.lemmas.Bool.Decides.{nat_tests}
use Rattle.std.proofs.lemmas.List.{length_push}
use Rattle.std.proofs.lemmas.List.Folds.{position_or_len_push}
use Rattle.std.proofs.lemmas.List.Sums.{prefix_len-le-length}
use Rattle.std.proofs.lemmas.Slice.Eq.{bytes_eq-Decides}
use Rattle.gate_library.proofs.ListLaws.{found-position, is_some-position}

module _ {X : Type 0} (p : X → Bool) (xs : List X) (x : X) where
  position-known : list_any p xs ≡ true → position p (xs ++ x ∷ []) ≡ position p xs
  position-known e =
      let h : nat_lt (position_or_len p xs) (length xs) ≡ true = found-position p xs ∙ e in
      let n : eqb (position_or_len p xs) (length xs) ≡ false = grind (arith, nat_tests) in
      let m : nat_lt (position_or_len p xs) (length xs + 1) ≡ true = grind (arith, nat_tests) in
      rw (position_or_len_push p xs x, n, length_push xs x, m, h) refl

  position-new : list_any p xs ≡ false → p x ≡ true → position p (xs ++ x ∷ []) ≡ Some (length xs)
  position-new none here =
      let h : nat_lt (position_or_len p xs) (length xs) ≡ false = found-position p xs ∙ none in
      let le : position_or_len p xs ≤ length xs = prefix_len-le-length (λ y. not (p y)) xs in
      let n : eqb (position_or_len p xs) (length xs) ≡ true = grind (arith, nat_tests) in
      let m : nat_lt (length xs + 0) (length xs + 1) ≡ true = grind (arith, nat_tests) in
      rw (position_or_len_push p xs x, n, length_push xs x, here, m) (ap Some (add-zero (length xs)))

  position-other : p x ≡ false → position p (xs ++ x ∷ []) ≡ position p xs
  position-other none =
      ⊎_elim position-known
      (λ f.
      let h : nat_lt (position_or_len p xs) (length xs) ≡ false = found-position p xs ∙ f in
      let le : position_or_len p xs ≤ length xs = prefix_len-le-length (λ y. not (p y)) xs in
      let n : eqb (position_or_len p xs) (length xs) ≡ true = grind (arith, nat_tests) in
      let m : nat_lt (length xs + 1) (length xs + 1) ≡ false = grind (arith, nat_tests) in
      rw (position_or_len_push p xs x, n, length_push xs x, none, m, h) refl)
      (cases_Bool (list_any p xs))

-- the name stands among those before it
pub index_kept : (before : List (List ℕ)) (x name : List ℕ) (f here : Option ℕ) → f ≡ position (λ y. bytes_eq name y) before
    → here ≡ position (λ y. bytes_eq x y) before → is_some here ≡ true → f ≡ position (λ y. bytes_eq name y) (before ++ x ∷ [])
index_kept before x name f here was same known =
    was ∙ sym (
    ⊎_elim
    (λ e. let same_name : name ≡ x = (bytes_eq-Decides name x).0 e in
    position-known (λ y. bytes_eq name y) before x
    (subst (λ (n : List ℕ). list_any (λ y. bytes_eq n y) before ≡ true) (sym same_name)
    (sym (is_some-position (λ y. bytes_eq x y) before) ∙ sym (ap is_some same) ∙ known)))
    (position-other (λ y. bytes_eq name y) before x)
    (cases_Bool (bytes_eq name x)))

-- it doesn't, and is put there
pub index_added : (before : List (List ℕ)) (i : ℕ) (x name : List ℕ) (f new here : Option ℕ) → length before ≡ i
    → f ≡ position (λ y. bytes_eq name y) before → here ≡ position (λ y. bytes_eq x y) before → is_some here ≡ false
    → new ≡ cond (bytes_eq x name) (Some i) f → new ≡ position (λ y. bytes_eq name y) (before ++ x ∷ [])
index_added before i x name f new here size was same unknown now =
    now ∙ sym (
    ⊎_elim
    (λ e. let same_name : name ≡ x = (bytes_eq-Decides name x).0 e in
    position-new (λ y. bytes_eq name y) before x
    (subst (λ (n : List ℕ). list_any (λ y. bytes_eq n y) before ≡ false) (sym same_name)
    (sym (is_some-position (λ y. bytes_eq x y) before) ∙ sym (ap is_some same) ∙ unknown)) e
    ∙ ap Some size ∙ sym (rw (nat_list_eq_equiv.symm x name, e) refl))
    (λ n. position-other (λ y. bytes_eq name y) before x n ∙ sym was ∙ sym (rw (nat_list_eq_equiv.symm x name, n) refl))
    (cases_Bool (bytes_eq name x)))
