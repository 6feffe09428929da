-- Lists of qubits that a text spells.
--   IsDistinct-none      no numbers differ
--   IsDistinct-more      a number that isn't in a list of different ones may stand behind them
--   behind ns o          numbers with others before them
--   numbers-none         before the first text
--   numbers-more         one text more that is a number, and none that is there before
--   numbers-unspelt      a text that is no number
--   numbers-twice        a text that is a number which is there before
--   numbers-all          all texts are different numbers
--   none                 what is no number is none
use Rattle.std.proofs.Common.{◌≡◌, ℕ, zero, suc, ◌+◌, ◌<◌, ◌≤◌, ◌∷◌, [], ◌++◌, ◌||◌, ◌&&◌, List, Bool, true, false, not, Option, Some, None, drop, get_or, length, map, refl, sym, ap, ◌∙◌, arith}
use Rattle.std.specs.Prelude.{nat_eq, if◌then◌else◌, option_and_then, option_map}
use Rattle.std.specs.List.{AllByRecursion, IsDistinct, list_any}
use Rattle.std.proofs.lemmas.List.{append-nil, append_assoc}
use Rattle.command_line.specs.Commands.{are_different, if_different, number_of, numbers_in}

all-more : (x n : ℕ) (ns : List ℕ) → AllByRecursion (λ y. nat_eq x y ≡ false) ns → nat_eq x n ≡ false
    → AllByRecursion (λ y. nat_eq x y ≡ false) (ns ++ n ∷ [])
all-more x n [] all e = (e, tt)
all-more x n (y ∷ ns) all e = (all.0, all-more x n ns all.1 e)

both_false : (a b : Bool) → (a || b) ≡ false → (a ≡ false) × (b ≡ false)
both_false true b e = cc
both_false false b e = (refl, e)

pub IsDistinct-none : IsDistinct nat_eq []
unfolding IsDistinct
IsDistinct-none = tt

pub IsDistinct-more : (n : ℕ) (ns : List ℕ) → IsDistinct nat_eq ns → list_any (λ q. nat_eq q n) ns ≡ false → IsDistinct nat_eq (ns ++ n ∷ [])
unfolding IsDistinct
IsDistinct-more n [] d none = (tt, tt)
IsDistinct-more n (x ∷ ns) d none =
    let both = both_false (nat_eq x n) (list_any (λ q. nat_eq q n) ns) none in
    (all-more x n ns d.0 both.0, IsDistinct-more n ns d.1 both.1)

-- numbers that are all different, and numbers of which one is there before
apart : (x : ℕ) (ns : List ℕ) → AllByRecursion (λ y. nat_eq x y ≡ false) ns → list_any (nat_eq x) ns ≡ false
apart x [] all = refl
apart x (y ∷ ns) all = ap (λ b. b || list_any (nat_eq x) ns) all.0 ∙ apart x ns all.1

different : (ns : List ℕ) → IsDistinct nat_eq ns → are_different ns ≡ true
unfolding IsDistinct
different [] d = refl
different (x ∷ ns) d = ap (λ b. not b && are_different ns) (apart x ns d.0) ∙ different ns d.1

or_true : (a : Bool) → (a || true) ≡ true
or_true true = refl
or_true false = refl

and_false : (a : Bool) → (a && false) ≡ false
and_false true = refl
and_false false = refl

found : (x n : ℕ) (ns ms : List ℕ) → nat_eq x n ≡ true → list_any (nat_eq x) (ns ++ n ∷ ms) ≡ true
found x n [] ms e = ap (λ b. b || list_any (nat_eq x) ms) e
found x n (y ∷ ns) ms e = ap (λ b. nat_eq x y || b) (found x n ns ms e) ∙ or_true (nat_eq x y)

chosen : (n x : ℕ) (ns ms : List ℕ) (b : Bool) → nat_eq x n ≡ b → (b || list_any (λ q. nat_eq q n) ns) ≡ true
    → (list_any (λ q. nat_eq q n) ns ≡ true → are_different (ns ++ n ∷ ms) ≡ false) → are_different (x ∷ ns ++ n ∷ ms) ≡ false
chosen n x ns ms true same some later = ap (λ b. not b && are_different (ns ++ n ∷ ms)) (found x n ns ms same)
chosen n x ns ms false same some later =
    ap (λ b. not (list_any (nat_eq x) (ns ++ n ∷ ms)) && b) (later some) ∙ and_false (not (list_any (nat_eq x) (ns ++ n ∷ ms)))

repeated : (n : ℕ) (ns ms : List ℕ) → list_any (λ q. nat_eq q n) ns ≡ true → are_different (ns ++ n ∷ ms) ≡ false
repeated n [] ms some = cc
repeated n (x ∷ ns) ms some = chosen n x ns ms (nat_eq x n) refl some (repeated n ns ms)

abbrev pub behind : List ℕ → Option (List ℕ) → Option (List ℕ)
behind ns o = option_map (λ ms. ns ++ ms) o

pub numbers-none : (o : Option (List ℕ)) → behind [] o ≡ o
numbers-none None = refl
numbers-none (Some ms) = refl

moved : (ns : List ℕ) (n : ℕ) (o : Option (List ℕ)) → behind (ns ++ n ∷ []) o ≡ behind ns (option_map (λ ms. n ∷ ms) o)
moved ns n None = refl
moved ns n (Some ms) = ap Some (append_assoc ns (n ∷ []) ms)

-- one text more
next : {A : Type 0} (f : A → List ℕ) (xs : List A) (k : ℕ) (d : A) → k < length xs → drop k (map f xs) ≡ f (get_or xs k d) ∷ drop (suc k) (map f xs)
next f [] k d lt = absurd (omega arith)
next f (y ∷ xs) zero d lt = refl
next f (y ∷ xs) (suc k) d lt = next f xs k d (omega (arith, lt))

numbers-next : {A : Type 0} (f : A → List ℕ) (xs : List A) (k : ℕ) (d : A) (o : Option ℕ) → k < length xs
    → o ≡ number_of 0 255 (f (get_or xs k d))
    → option_and_then (λ n. option_map (λ ms. n ∷ ms) (numbers_in (drop (suc k) (map f xs)))) o ≡ numbers_in (drop k (map f xs))
numbers-next f xs k d o lt told =
    ap (option_and_then (λ n. option_map (λ ms. n ∷ ms) (numbers_in (drop (suc k) (map f xs))))) told ∙ sym (ap numbers_in (next f xs k d lt))

pub numbers-more : {A : Type 0} (f : A → List ℕ) (xs : List A) (k : ℕ) (d : A) (ns new : List ℕ) (o : Option ℕ) (n : ℕ) (all : Option (List ℕ))
    → k < length xs → o ≡ number_of 0 255 (f (get_or xs k d)) → o ≡ Some n → new ≡ ns ++ n ∷ []
    → behind ns (numbers_in (drop k (map f xs))) ≡ all → behind new (numbers_in (drop (k + 1) (map f xs))) ≡ all
numbers-more f xs k d ns new o n all lt told is grown before =
    ap (λ ms. behind ms (numbers_in (drop (k + 1) (map f xs)))) grown
    ∙ ap (λ j. behind (ns ++ n ∷ []) (numbers_in (drop j (map f xs)))) one
    ∙ moved ns n (numbers_in (drop (suc k) (map f xs)))
    ∙ ap (behind ns) (numbers-next f xs k d (Some n) lt (sym is ∙ told)) ∙ before
  where
    one : k + 1 ≡ suc k
    one = omega arith

pub numbers-unspelt : {A : Type 0} (f : A → List ℕ) (xs : List A) (k : ℕ) (d : A) (ns : List ℕ) (o : Option ℕ) (all : Option (List ℕ)) → k < length xs
    → o ≡ number_of 0 255 (f (get_or xs k d)) → o ≡ None → behind ns (numbers_in (drop k (map f xs))) ≡ all
    → None ≡ option_and_then if_different all
numbers-unspelt f xs k d ns o all lt told is before =
    ap (λ q. option_and_then if_different (behind ns q)) (numbers-next f xs k d None lt (sym is ∙ told)) ∙ ap (option_and_then if_different) before

twice : (ns : List ℕ) (n : ℕ) (o : Option (List ℕ)) → list_any (λ q. nat_eq q n) ns ≡ true
    → None ≡ option_and_then if_different (behind ns (option_map (λ ms. n ∷ ms) o))
twice ns n None some = refl
twice ns n (Some ms) some = sym (ap (λ b. if b then Some (ns ++ n ∷ ms) else None) (repeated n ns ms some))

pub numbers-twice : {A : Type 0} (f : A → List ℕ) (xs : List A) (k : ℕ) (d : A) (ns : List ℕ) (o : Option ℕ) (n : ℕ) (all : Option (List ℕ))
    → k < length xs → o ≡ number_of 0 255 (f (get_or xs k d)) → o ≡ Some n → list_any (λ q. nat_eq q n) ns ≡ true
    → behind ns (numbers_in (drop k (map f xs))) ≡ all → None ≡ option_and_then if_different all
numbers-twice f xs k d ns o n all lt told is some before =
    twice ns n (numbers_in (drop (suc k) (map f xs))) some
    ∙ ap (λ q. option_and_then if_different (behind ns q)) (numbers-next f xs k d (Some n) lt (sym is ∙ told))
    ∙ ap (option_and_then if_different) before

past : {A : Type 0} (f : A → List ℕ) (xs : List A) (k : ℕ) → length xs ≤ k → drop k (map f xs) ≡ []
past f [] zero le = refl
past f [] (suc k) le = refl
past f (x ∷ xs) zero le = absurd (omega arith)
past f (x ∷ xs) (suc k) le = past f xs k (omega (arith, le))

pub numbers-all : {A : Type 0} (f : A → List ℕ) (xs : List A) (k : ℕ) (ns : List ℕ) (all : Option (List ℕ)) → length xs ≤ k → IsDistinct nat_eq ns
    → behind ns (numbers_in (drop k (map f xs))) ≡ all → Some ns ≡ option_and_then if_different all
numbers-all f xs k ns all le d before =
    sym (ap (λ b. if b then Some ns else None) (different ns d))
    ∙ ap if_different (sym (append-nil ns))
    ∙ ap (λ ts. option_and_then if_different (behind ns (numbers_in ts))) (sym (past f xs k le))
    ∙ ap (option_and_then if_different) before

pub none : (o : Option ℕ) → ((n : ℕ) → o ≡ Some n → ⊥) → o ≡ None
none None never = refl
none (Some n) never = absurd (never n refl)
