-- Whether a list fits.
--   IsFitting-all, all-IsFitting   a list fits where it has the length and all of it is below
--   fitting                        both, for `is_fitting` of the code
use Rattle.std.proofs.Common.{◌≡◌, ℕ, ◌<◌, Bool, true, false, ◌&&◌, List, [], ◌∷◌, length, refl, ap, ◌∙◌, arith}
use Rattle.std.specs.Prelude.{nat_lt}
use Rattle.std.specs.List.{AllByRecursion, list_all}
use Rattle.std.proofs.lemmas.Bool.Decides.{nat_tests}
use Rattle.std.proofs.lemmas.List.Elements.{All-from_recursion, recursion_from_All}
use Rattle.wire_starts.specs.Starts.{IsFitting}

below : (q n : ℕ) → nat_lt q n ≡ true → q < n
below q n e = grind (arith, nat_tests)

is_below : (q n : ℕ) → q < n → nat_lt q n ≡ true
is_below q n lt = grind (arith, nat_tests)

both : (a b : Bool) → (a && b) ≡ true → (a ≡ true) × (b ≡ true)
both true b e = (refl, e)
both false b e = cc

all-below : (n : ℕ) (list : List ℕ) → list_all (λ q. nat_lt q n) list ≡ true → AllByRecursion (λ q. q < n) list
all-below n [] e = tt
all-below n (q ∷ list) e = let h = both (nat_lt q n) (list_all (λ p. nat_lt p n) list) e in (below q n h.0, all-below n list h.1)

below-all : (n : ℕ) (list : List ℕ) → AllByRecursion (λ q. q < n) list → list_all (λ q. nat_lt q n) list ≡ true
below-all n [] h = refl
below-all n (q ∷ list) h = ap (λ b. b && list_all (λ p. nat_lt p n) list) (is_below q n h.0) ∙ below-all n list h.1

pub IsFitting-all : (wires size : ℕ) (list : List ℕ) → length list ≡ wires → list_all (λ q. nat_lt q size) list ≡ true → IsFitting wires size list
IsFitting-all wires size list long e = record { long = long; within = All-from_recursion (λ q. q < size) list (all-below size list e) }

pub all-IsFitting : (wires size : ℕ) (list : List ℕ) → IsFitting wires size list → list_all (λ q. nat_lt q size) list ≡ true
all-IsFitting wires size list h = below-all size list (recursion_from_All (λ q. q < size) list h.within)

pub ruleset fitting = (IsFitting-all, all-IsFitting)
