-- The names of variables, and what they do for path sums.
--     named-both              what was put in, and then more, stands there
--     sums-by, by-sums        what is the same by number is the same path sum, and the other way round
--     function-by, by-function        so are phases that are the same function
--     constant-by             what stands on none is the same number
use Rattle.std.proofs.Common.{◌≡◌, ℕ, zero, suc, ◌+◌, ◌-◌, ◌*◌, ◌^◌, ◌<◌, ◌≤◌, Bool, true, false, cond, if◌then◌else◌, ◌||◌, List, [], ◌∷◌, ◌++◌, length, get_or, refl, sym, subst, ◌∙◌, ap, arith, true≢false}
use Rattle.std.specs.Prelude.{nat_eq, nat_lt}
use Rattle.std.specs.Int.{bit_at}
use Rattle.std.specs.List.{list_any, position_or_len}
use Rattle.std.proofs.lemmas.Bool.Decides.{nat_tests}
use Rattle.std.proofs.lemmas.List.Folds.{list_any-append}
use Rattle.indexmap.specs.IndexSet.{insert_all, insert_key}
use Rattle.unitary_model.specs.Acts.{Bits}
use Rattle.circuit_list.specs.declared.Gate.{Gate}
use Rattle.circuit_list.specs.declared.Gate.TheVariants.{H, X, P, Cx}
use Rattle.path_parity.specs.PathFunctions.{parity, SamePathFunction}
use Rattle.path_parity.specs.PathSum.{label, odd_over, own_labels, xor}
use Rattle.path_parity.specs.NamedSums.{Seen, constant_of, next_variable, seen_after, unseen, SamePathSum}
use Rattle.path_parity.proofs.NumberedLaws.{Renames, image, renamed, renamed-linear, renamed-own, renamed-zero}
use Rattle.path_parity.proofs.ParityLaws as parities
use Rattle.path_parity.proofs.ParityLaws.{parity-below, parity-own, parity-xor}
use Rattle.path_sums.specs.Names.{AreAmong, SameBy, SameFunctionBy, constant_by, number_by, variables_of}
use Rattle.path_sums.proofs.CollectLaws.{equal, own}
use Rattle.path_sums.proofs.TouchedLaws.{IsPlaced, placed}
use Rattle.path_sums.proofs.RenameLaws.{Carries, carried_constant, constant-named, function-carried, function-named, named-function, named-same, same-carried, same-named}

-- ---- names that are put in
stays : (names : List ℕ) (v u : ℕ) → list_any (nat_eq u) names ≡ true → list_any (nat_eq u) (insert_key nat_eq names v) ≡ true
stays names v u h = go (list_any (nat_eq v) names)
  where
    go : (b : Bool) → list_any (nat_eq u) (if b then names else names ++ v ∷ []) ≡ true
    go true = h
    go false = list_any-append (nat_eq u) names (v ∷ []) ∙ ap (λ b. b || list_any (nat_eq u) (v ∷ [])) h

comes : (names : List ℕ) (v : ℕ) → list_any (nat_eq v) (insert_key nat_eq names v) ≡ true
comes names v = go (list_any (nat_eq v) names) refl
  where
    last : (b : Bool) → (b || (nat_eq v v || false)) ≡ true
    last true = refl
    last false = ap (λ b. b || false) (own v)

    go : (b : Bool) → list_any (nat_eq v) names ≡ b → list_any (nat_eq v) (if b then names else names ++ v ∷ []) ≡ true
    go true e = e
    go false e = list_any-append (nat_eq v) names (v ∷ []) ∙ last (list_any (nat_eq v) names)

all_stay : (names vs : List ℕ) (u : ℕ) → list_any (nat_eq u) names ≡ true → list_any (nat_eq u) (insert_all nat_eq names vs) ≡ true
all_stay names [] u h = h
all_stay names (v ∷ vs) u h = all_stay (insert_key nat_eq names v) vs u (stays names v u h)

AreAmong-all : (names vs : List ℕ) → AreAmong (insert_all nat_eq names vs) vs
AreAmong-all names [] = tt
AreAmong-all names (v ∷ vs) = (all_stay (insert_key nat_eq names v) vs v (comes names v), AreAmong-all (insert_key nat_eq names v) vs)

AreAmong-kept : (names us vs : List ℕ) → AreAmong names vs → AreAmong (insert_all nat_eq names us) vs
AreAmong-kept names us [] h = tt
AreAmong-kept names us (v ∷ vs) h = (all_stay names us v h.0, AreAmong-kept names us vs h.1)

pub named-both : (names more all us vs : List ℕ) → more ≡ insert_all nat_eq names us → all ≡ insert_all nat_eq more vs → AreAmong all us × AreAmong all vs
named-both names more all us vs e f = (
  subst (λ ks. AreAmong ks us) (sym f) (AreAmong-kept more vs us (subst (λ ks. AreAmong ks us) (sym e) (AreAmong-all names us))),
  subst (λ ks. AreAmong ks vs) (sym f) (AreAmong-all more vs),
)

abbrev bound : List ℕ → ℕ
bound [] = 0
bound (x ∷ xs) = x + bound xs

bounded : (names : List ℕ) (v : ℕ) → list_any (nat_eq v) names ≡ true → v ≤ bound names
bounded [] v h = absurd (true≢false (sym h))
bounded (x ∷ xs) v h = go (nat_eq v x) refl h (bounded xs v)
  where
    go : (b : Bool) → nat_eq v x ≡ b → (b || list_any (nat_eq v) xs) ≡ true → (list_any (nat_eq v) xs ≡ true → v ≤ bound xs) → v ≤ x + bound xs
    go true e f r = omega (arith, equal v x e)
    go false e f r = omega (arith, r f)

-- ---- the values of variables under their names
abbrev pulled : ℕ → (ℕ → ℕ) → Bits → Bits
pulled M r v = parities.below M (λ i. v (r i))

parity-under : (M : ℕ) (r : ℕ → ℕ) (v : Bits) (m : ℕ) → parity v (renamed M r m) ≡ odd_over M (λ i. v (r i)) m
parity-under zero r v m = refl
parity-under (suc M) r v m = parity-xor v (renamed M r m) (image r m M) ∙ (λ i. xor (parity-under M r v m i) (one (nat_eq (bit_at m M) 1) i))
  where
    one : (b : Bool) → parity v (cond b (2 ^ r M) 0) ≡ cond b (v (r M)) false
    one true = parity-own v (r M)
    one false = refl

parity-pulled : (M : ℕ) (r : ℕ → ℕ) (v : Bits) (m : ℕ) → parity v (renamed M r m) ≡ parity (pulled M r v) m
parity-pulled M r v m = parity-under M r v m ∙ parity-below M (λ i. v (r i)) m

-- ---- the two maps
below : (v n : ℕ) → v < n → nat_lt v n ≡ true
below v n h = grind (arith, nat_tests)

is_below : (v n : ℕ) → nat_lt v n ≡ true → v < n
is_below v n h = grind (arith, nat_tests)

above : (v n : ℕ) → n ≤ v → nat_lt v n ≡ false
above v n h = grind (arith, nat_tests)

own-renamed : (N n : ℕ) (r : ℕ → ℕ) → n ≤ N → ((i : ℕ) → i < n → r i ≡ i) → Renames (renamed N r) (own_labels n) (own_labels n)
own-renamed N n r le same = record { at = λ q. ap (λ m. label m false) (go q (nat_lt q n) refl) }
  where
    go : (q : ℕ) (b : Bool) → nat_lt q n ≡ b → cond (nat_lt q n) (2 ^ q) 0 ≡ renamed N r (cond (nat_lt q n) (2 ^ q) 0)
    go q true e = let lt : q < n = is_below q n e in
        (λ i. cond (e i) (2 ^ q) 0) ∙ sym (renamed-own N q r (omega arith) ∙ ap (λ k. 2 ^ k) (same q lt)) ∙ (λ i. renamed N r (cond (sym e i) (2 ^ q) 0))
    go q false e = (λ i. cond (e i) (2 ^ q) 0) ∙ sym (renamed-zero N r) ∙ (λ i. renamed N r (cond (sym e i) (2 ^ q) 0))

module _ (n : ℕ) (names : List ℕ) where
  abbrev back : ℕ → ℕ
  back i = cond (nat_lt i n) i (get_or names (i - n) 0)

  abbrev forth : ℕ → ℕ
  forth v = cond (nat_lt v n) v (number_by n names v)

  abbrev name_of : ℕ → ℕ
  name_of = renamed (n + length names) back

  abbrev number_of : ℕ → ℕ
  number_of = renamed (suc (n + bound names)) forth

  name-number : (v : ℕ) → list_any (nat_eq v) names ≡ true → name_of (2 ^ number_by n names v) ≡ 2 ^ v
  name-number v h =
      let p : IsPlaced names v = placed names v h in
      let index : number_by n names v - n ≡ position_or_len (nat_eq v) names = omega arith in
      renamed-own (n + length names) (number_by n names v) back (omega (arith, p.within))
      ∙ ap (λ k. 2 ^ k) ((λ i. cond (above (number_by n names v) n (omega arith) i) (number_by n names v) (get_or names (index i) 0)) ∙ p.there)

  number-name : (v : ℕ) → n ≤ v → list_any (nat_eq v) names ≡ true → number_of (2 ^ v) ≡ 2 ^ number_by n names v
  number-name v le h = renamed-own (suc (n + bound names)) v forth (omega (arith, bounded names v h)) ∙ ap (λ k. 2 ^ k) (λ i. cond (above v n le i) v (number_by n names v))

  carries-names : (vs : List ℕ) → AreAmong names vs → Carries (number_by n names) (λ v. v) name_of vs
  carries-names [] h = tt
  carries-names (v ∷ vs) h = (name-number v h.0, carries-names vs h.1)

  behind : (a q : ℕ) → n ≤ suc a * n + q
  behind a q = omega arith

  carries-numbers : (gs : List Gate) (s : Seen) → AreAmong names (variables_of n gs s) → Carries (λ v. v) (number_by n names) number_of (variables_of n gs s)
  carries-numbers [] s h = tt
  carries-numbers (H q ∷ gs) s h = (number-name (next_variable n s q) (behind (s q) q) h.0, carries-numbers gs (seen_after (H q) s) h.1)
  carries-numbers (X q ∷ gs) s h = carries-numbers gs s h
  carries-numbers (P k q ∷ gs) s h = carries-numbers gs s h
  carries-numbers (Cx c t ∷ gs) s h = carries-numbers gs s h

  own-name : Renames name_of (own_labels n) (own_labels n)
  own-name = own-renamed (n + length names) n back (omega arith) (λ i lt j. cond (below i n lt j) i (get_or names (i - n) 0))

  own-number : Renames number_of (own_labels n) (own_labels n)
  own-number = own-renamed (suc (n + bound names)) n forth (omega arith) (λ i lt j. cond (below i n lt j) i (number_by n names i))

  pub sums-by : (A B : List Gate) → AreAmong names (variables_of n A unseen) → AreAmong names (variables_of n B unseen) → SameBy n (number_by n names) A B → SamePathSum n A B
  sums-by A B a b same = same-named n A B (same-carried n (number_by n names) (λ v. v) name_of (renamed-linear (n + length names) back) A B (carries-names (variables_of n A unseen) a) (carries-names (variables_of n B unseen) b) own-name same)

  pub by-sums : (A B : List Gate) → AreAmong names (variables_of n A unseen) → AreAmong names (variables_of n B unseen) → SamePathSum n A B → SameBy n (number_by n names) A B
  by-sums A B a b same = same-carried n (λ v. v) (number_by n names) number_of (renamed-linear (suc (n + bound names)) forth) A B (carries-numbers A unseen a) (carries-numbers B unseen b) own-number (named-same n A B same)

  pub function-by : (A B : List Gate) → AreAmong names (variables_of n A unseen) → AreAmong names (variables_of n B unseen) → SameFunctionBy n (number_by n names) A B → SamePathFunction n A B
  function-by A B a b same = function-named n A B (function-carried n (number_by n names) (λ v. v) name_of (renamed-linear (n + length names) back) (pulled (n + length names) back) (parity-pulled (n + length names) back) A B
      (carries-names (variables_of n A unseen) a) (carries-names (variables_of n B unseen) b) own-name same)

  pub by-function : (A B : List Gate) → AreAmong names (variables_of n A unseen) → AreAmong names (variables_of n B unseen) → SamePathFunction n A B → SameFunctionBy n (number_by n names) A B
  by-function A B a b same = function-carried n (λ v. v) (number_by n names) number_of (renamed-linear (suc (n + bound names)) forth) (pulled (suc (n + bound names)) forth) (parity-pulled (suc (n + bound names)) forth) A B
      (carries-numbers A unseen a) (carries-numbers B unseen b) own-number (named-function n A B same)

  pub constant-by : (A : List Gate) → AreAmong names (variables_of n A unseen) → constant_by n (number_by n names) A (own_labels n) unseen ≡ constant_of n A
  constant-by A a = sym (carried_constant n (number_by n names) (λ v. v) name_of (renamed-linear (n + length names) back) A (own_labels n) (own_labels n) unseen (carries-names (variables_of n A unseen) a) own-name) ∙ constant-named n A (own_labels n) unseen
