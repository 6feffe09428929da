-- Windows: laws of short lists on three wires are computed, and then hold on any three wires.
--     Three, three, get3, put3, eight     the bits of the wires 0, 1 and 2, and all eight of them
--     add_rows, spin_row, double_row      rows of eight coefficients
--     row3 us y, rows_of k n us           what a list makes of the bits y, and of all eight, doubled n times and turned by k
--     Agree k A B             B is w^k times A, as an equation between rows: proved by `refl`
--     wires q0 q1 q2, Distinct, embed     three wires, that they differ, and their bits among all bits
--     in_place                windows that agree make a `Turns` on any three wires;  a window of fewer takes any other as its third
--     weight-place, all_within
use Rattle.std.proofs.Common.{◌≡◌, ◌≢◌, ℕ, zero, suc, Bool, true, false, cond, List, [], ◌∷◌, map, refl, sym, ◌∙◌, ap, arith}
use Rattle.std.proofs.Math.Path.{fun_ext}
use Rattle.std.specs.Prelude.{nat_eq}
use Rattle.std.proofs.lemmas.Bool.Decides.{nat_tests}
use Rattle.unitary_model.specs.declared.Op.{Op}
use Rattle.unitary_model.specs.declared.Op.TheVariants.{U, Cx}
use Rattle.unitary_model.specs.Ring.{Ring, nought, unit, plus, turn1, turn, double, mul}
use Rattle.unitary_model.specs.Operations.{weight}
use Rattle.unitary_model.specs.Acts.{spins, act, Bits, bit, put, applied, Turns, place}
use Rattle.unitary_model.proofs.RingLaws.{nought-plus, plus-nought, swap_inner, turn1-plus, mul-plus, mul-turn1, nought-mul, unit-mul}
use Rattle.unitary_model.proofs.ActLaws.{act-hom, act-carry, Within}

-- ---- the bits of three wires, 0, 1 and 2
pub record Three : Type 0 where
  pub first : Bool
  pub second : Bool
  pub third : Bool

abbrev pub three : Bool → Bool → Bool → Three
three a b c = record { first = a; second = b; third = c }

abbrev pub get3 : Three → ℕ → Bool
get3 y zero = y.first
get3 y (suc zero) = y.second
get3 y (suc (suc i)) = y.third

abbrev pub put3 : Three → ℕ → Bool → Three
put3 y zero b = three b y.second y.third
put3 y (suc zero) b = three y.first b y.third
put3 y (suc (suc i)) b = three y.first y.second b

-- all bits
abbrev pub eight : List Three
eight = three false false false ∷ three false false true ∷ three false true false ∷ three false true true ∷ three true false false ∷ three true false true ∷ three true true false ∷ three true true true ∷ []

-- ---- a row of coefficients, one for each of eight values
abbrev pub add_rows : List Ring → List Ring → List Ring
add_rows [] s = s
add_rows (c ∷ r) [] = c ∷ r
add_rows (c ∷ r) (e ∷ s) = plus c e ∷ add_rows r s

abbrev pub spin_row : List Ring → List Ring
spin_row [] = []
spin_row (c ∷ r) = turn1 c ∷ spin_row r

-- what a row stands for
abbrev pub value_at : List Three → (Three → Ring) → List Ring → Ring
value_at [] f r = nought
value_at (y ∷ ys) f [] = nought
value_at (y ∷ ys) f (c ∷ r) = plus (mul c (f y)) (value_at ys f r)

pub value_at-add : (ys : List Three) (f : Three → Ring) (r s : List Ring) → value_at ys f (add_rows r s) ≡ plus (value_at ys f r) (value_at ys f s)
value_at-add [] f r s = sym (plus-nought nought)
value_at-add (y ∷ ys) f [] s = sym (nought-plus (value_at (y ∷ ys) f s))
value_at-add (y ∷ ys) f (c ∷ r) [] = sym (plus-nought (value_at (y ∷ ys) f (c ∷ r)))
value_at-add (y ∷ ys) f (c ∷ r) (e ∷ s) =
    (λ i. plus (mul-plus c e (f y) i) (value_at-add ys f r s i)) ∙ swap_inner (mul c (f y)) (mul e (f y)) (value_at ys f r) (value_at ys f s)

pub value_at-spin : (ys : List Three) (f : Three → Ring) (r : List Ring) → value_at ys f (spin_row r) ≡ turn1 (value_at ys f r)
unfolding turn1 nought
value_at-spin [] f r = refl
value_at-spin (y ∷ ys) f [] = refl
value_at-spin (y ∷ ys) f (c ∷ r) = (λ i. plus (mul-turn1 c (f y) i) (value_at-spin ys f r i)) ∙ sym (turn1-plus (mul c (f y)) (value_at ys f r))

-- the row with a 1 at y alone
abbrev pub spot : Three → List Ring
spot y = cond y.first (nought ∷ nought ∷ nought ∷ nought ∷ half y.second y.third []) (half y.second y.third (nought ∷ nought ∷ nought ∷ nought ∷ []))
  where
    quarter : Bool → List Ring → List Ring
    quarter c r = cond c (nought ∷ unit ∷ r) (unit ∷ nought ∷ r)

    half : Bool → Bool → List Ring → List Ring
    half b c r = cond b (nought ∷ nought ∷ quarter c r) (quarter c (nought ∷ nought ∷ r))

pub value_at-spot : (f : Three → Ring) (a b c : Bool) → value_at eight f (spot (three a b c)) ≡ f (three a b c)
value_at-spot f false false false = simp (nought-mul, unit-mul, nought-plus, plus-nought)
value_at-spot f false false true = simp (nought-mul, unit-mul, nought-plus, plus-nought)
value_at-spot f false true false = simp (nought-mul, unit-mul, nought-plus, plus-nought)
value_at-spot f false true true = simp (nought-mul, unit-mul, nought-plus, plus-nought)
value_at-spot f true false false = simp (nought-mul, unit-mul, nought-plus, plus-nought)
value_at-spot f true false true = simp (nought-mul, unit-mul, nought-plus, plus-nought)
value_at-spot f true true false = simp (nought-mul, unit-mul, nought-plus, plus-nought)
value_at-spot f true true true = simp (nought-mul, unit-mul, nought-plus, plus-nought)

-- ---- a list of operations on the three wires
abbrev pub act3 : List Op → (Three → Ring) → Three → Ring
act3 = act plus turn1 get3 put3

abbrev pub row3 : List Op → Three → List Ring
row3 us y = act add_rows spin_row get3 put3 us spot y

pub act3-rows : (us : List Op) (f : Three → Ring) (y : Three) → value_at eight f (row3 us y) ≡ act3 us f y
act3-rows us f y =
    act-hom add_rows spin_row plus turn1 get3 put3 (value_at eight f) (value_at-add eight f) (value_at-spin eight f) us spot y
    ∙ ap (λ g. act3 us g y) (fun_ext (λ z. value_at-spot f z.first z.second z.third))

abbrev pub double_row : ℕ → List Ring → List Ring
double_row zero r = r
double_row (suc n) r = let s = double_row n r in add_rows s s

-- every row of B, doubled m times, is the row of A, doubled n times, turned by k
abbrev pub rows_of : ℕ → ℕ → List Op → List (List Ring)
rows_of k n us = map (λ y. spins spin_row k (double_row n (row3 us y))) eight

unfoldable pub Agree : ℕ → List Op → List Op → Type 0
Agree k A B = rows_of 0 (weight A) B ≡ rows_of k (weight B) A

-- ---- the same on any three wires
abbrev pub wires : ℕ → ℕ → ℕ → ℕ → ℕ
wires q0 q1 q2 zero = q0
wires q0 q1 q2 (suc zero) = q1
wires q0 q1 q2 (suc (suc i)) = q2

pub record Distinct (q0 q1 q2 : ℕ) : Type 0 where
  pub first_second : q0 ≢ q1
  pub first_third : q0 ≢ q2
  pub second_third : q1 ≢ q2

-- x with the three bits of y
pub embed : ℕ → ℕ → ℕ → Bits → Three → Bits
embed q0 q1 q2 x y = λ j. cond (nat_eq j q0) y.first (cond (nat_eq j q1) y.second (cond (nat_eq j q2) y.third (x j)))

pick : (j q : ℕ) (u v : Bool) → (j ≡ q → u ≡ v) → cond (nat_eq j q) u v ≡ v
pick j q u v h = grind (arith, nat_tests)

embed_whole : (q0 q1 q2 : ℕ) (x : Bits) → embed q0 q1 q2 x (three (x q0) (x q1) (x q2)) ≡ x
unfolding embed
embed_whole q0 q1 q2 x = fun_ext (λ j.
    pick j q0 _ _ (λ e. ap x (sym e) ∙ sym (rest j)) ∙ rest j)
  where
    last : (j : ℕ) → cond (nat_eq j q2) (x q2) (x j) ≡ x j
    last j = pick j q2 (x q2) (x j) (λ e. ap x (sym e))

    rest : (j : ℕ) → cond (nat_eq j q1) (x q1) (cond (nat_eq j q2) (x q2) (x j)) ≡ x j
    rest j = pick j q1 (x q1) _ (λ e. ap x (sym e) ∙ sym (last j)) ∙ last j

same : (q : ℕ) → nat_eq q q ≡ true
same q = grind (arith, nat_tests)

other : (j q : ℕ) → j ≢ q → nat_eq j q ≡ false
other j q h = grind (arith, nat_tests)

embed_bit : (q0 q1 q2 : ℕ) → Distinct q0 q1 q2 → (x : Bits) (y : Three) (i : ℕ) → bit (embed q0 q1 q2 x y) (wires q0 q1 q2 i) ≡ get3 y i
unfolding embed
embed_bit q0 q1 q2 d x y zero = rw (same q0)
embed_bit q0 q1 q2 d x y (suc zero) = rw (other q1 q0 (λ e. d.first_second (sym e)), same q1)
embed_bit q0 q1 q2 d x y (suc (suc i)) = rw (other q2 q0 (λ e. d.first_third (sym e)), other q2 q1 (λ e. d.second_third (sym e)), same q2)

-- two tests that can't both hold may stand in either order
exchange : (s t : Bool) (u v w : Bool) → (s ≡ true → t ≡ true → ⊥) → cond s u (cond t v w) ≡ cond t v (cond s u w)
exchange true true u v w h = absurd (h refl refl)
exchange true false u v w h = refl
exchange false true u v w h = refl
exchange false false u v w h = refl

apart : (q q' : ℕ) → q ≢ q' → (j : ℕ) → nat_eq j q ≡ true → nat_eq j q' ≡ true → ⊥
apart q q' h j s t = h (grind (arith, nat_tests))

twice : (s : Bool) (u v w : Bool) → cond s u (cond s v w) ≡ cond s u w
twice true u v w = refl
twice false u v w = refl

embed_put : (q0 q1 q2 : ℕ) → Distinct q0 q1 q2 → (x : Bits) (y : Three) (i : ℕ) (b : Bool) → put (embed q0 q1 q2 x y) (wires q0 q1 q2 i) b ≡ embed q0 q1 q2 x (put3 y i b)
unfolding embed
embed_put q0 q1 q2 d x y zero b = fun_ext (λ j. twice (nat_eq j q0) b y.first _)
embed_put q0 q1 q2 d x y (suc zero) b = fun_ext (λ j.
    exchange (nat_eq j q1) (nat_eq j q0) b y.first _ (apart q1 q0 (λ e. d.first_second (sym e)) j)
    ∙ ap (cond (nat_eq j q0) y.first) (twice (nat_eq j q1) b y.second _))
embed_put q0 q1 q2 d x y (suc (suc i)) b = fun_ext (λ j.
    exchange (nat_eq j q2) (nat_eq j q0) b y.first _ (apart q2 q0 (λ e. d.first_third (sym e)) j)
    ∙ ap (cond (nat_eq j q0) y.first) (exchange (nat_eq j q2) (nat_eq j q1) b y.second _ (apart q2 q1 (λ e. d.second_third (sym e)) j)
    ∙ ap (cond (nat_eq j q1) y.second) (twice (nat_eq j q2) b y.third (x j))))

pub all_within : (us : List Op) → Within (λ _. Unit {0}) us
all_within [] = tt
all_within (U a b c q ∷ us) = (tt, all_within us)
all_within (Cx c t ∷ us) = (tt, (tt, all_within us))

pub weight-place : (p : ℕ → ℕ) (us : List Op) → weight (map (place p) us) ≡ weight us
weight-place p [] = refl
weight-place p (U a b c q ∷ us) = ap (λ n. suc n) (weight-place p us)
weight-place p (Cx c t ∷ us) = weight-place p us

-- what a list does on three wires is what its rows say
pub applied_placed : (q0 q1 q2 : ℕ) → Distinct q0 q1 q2 → (us : List Op) (f : Bits → Ring) (x : Bits) →
    applied (map (place (wires q0 q1 q2)) us) f x ≡ value_at eight (λ y. f (embed q0 q1 q2 x y)) (row3 us (three (x q0) (x q1) (x q2)))
applied_placed q0 q1 q2 d us f x =
    ap (applied (map (place (wires q0 q1 q2)) us) f) (sym (embed_whole q0 q1 q2 x))
    ∙ act-carry plus turn1 bit put get3 put3 (λ _. Unit {0}) (wires q0 q1 q2) (embed q0 q1 q2 x) (λ y i _. embed_bit q0 q1 q2 d x y i) (λ y i b _. embed_put q0 q1 q2 d x y i b) us (all_within us) f (three (x q0) (x q1) (x q2))
    ∙ sym (act3-rows us (λ y. f (embed q0 q1 q2 x y)) (three (x q0) (x q1) (x q2)))

row_at : (k n : ℕ) (us : List Op) (a b c : Bool) → List Ring
row_at k n us a b c = spins spin_row k (double_row n (row3 us (three a b c)))

nth : List (List Ring) → ℕ → List Ring
nth [] i = []
nth (r ∷ rs) zero = r
nth (r ∷ rs) (suc i) = nth rs i

agree_at : (k : ℕ) (A B : List Op) → Agree k A B → (a b c : Bool) → row_at 0 (weight A) B a b c ≡ row_at k (weight B) A a b c
unfolding Agree row_at nth
agree_at k A B h false false false = ap (λ r. nth r 0) h
agree_at k A B h false false true = ap (λ r. nth r 1) h
agree_at k A B h false true false = ap (λ r. nth r 2) h
agree_at k A B h false true true = ap (λ r. nth r 3) h
agree_at k A B h true false false = ap (λ r. nth r 4) h
agree_at k A B h true false true = ap (λ r. nth r 5) h
agree_at k A B h true true false = ap (λ r. nth r 6) h
agree_at k A B h true true true = ap (λ r. nth r 7) h

value_at-spins : (k : ℕ) (f : Three → Ring) (r : List Ring) → value_at eight f (spins spin_row k r) ≡ turn k (value_at eight f r)
value_at-spins zero f r = refl
value_at-spins (suc k) f r = value_at-spin eight f (spins spin_row k r) ∙ ap turn1 (value_at-spins k f r)

value_at-double : (n : ℕ) (f : Three → Ring) (r : List Ring) → value_at eight f (double_row n r) ≡ double n (value_at eight f r)
value_at-double zero f r = refl
value_at-double (suc n) f r = value_at-add eight f (double_row n r) (double_row n r) ∙ ap (λ t. plus t t) (value_at-double n f r)

-- rows that agree, by computing, make a law on any three wires
pub in_place : (q0 q1 q2 : ℕ) → Distinct q0 q1 q2 → (k : ℕ) (A B : List Op) → Agree k A B → Turns k (map (place (wires q0 q1 q2)) A) (map (place (wires q0 q1 q2)) B)
unfolding row_at
in_place q0 q1 q2 d k A B h = record {
  law = λ f x.
      let g : Three → Ring = λ y. f (embed q0 q1 q2 x y) in
      let y : Three = three (x q0) (x q1) (x q2) in
      (λ i. double (weight-place (wires q0 q1 q2) A i) (applied_placed q0 q1 q2 d B f x i))
      ∙ sym (value_at-double (weight A) g (row3 B y))
      ∙ ap (value_at eight g) (agree_at k A B h (x q0) (x q1) (x q2))
      ∙ value_at-spins k g (double_row (weight B) (row3 A y))
      ∙ ap (turn k) (value_at-double (weight B) g (row3 A y))
      ∙ (λ i. turn k (double (sym (weight-place (wires q0 q1 q2) B) i) (sym (applied_placed q0 q1 q2 d A f x) i)));
}
