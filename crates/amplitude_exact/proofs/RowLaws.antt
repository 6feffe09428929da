-- Rows of an amplitude over a column.
--     turn_rest       only the rest of a turn modulo 8 matters
--     turn_half       w^4 is -1
--     row-double      a row of doubled entries
--     row_turned, row_exchanged       the rows of the U that aren't branches
--     within-row      how large a row is
--     value-cx, value-branch, value-turned, value-exchanged   a value with an operation more in front
use Rattle.std.proofs.Common.{◌≡◌, ℕ, zero, suc, ◌+◌, ◌*◌, ◌/◌, ◌%◌, ◌^◌, Bool, true, false, cond, not, List, ◌∷◌, refl, sym, subst, ◌∙◌, ap, arith}
use Rattle.std.specs.Prelude.{◌==◌, ◌||◌, if◌then◌else◌}
use Rattle.unitary_model.specs.declared.Op.{Op}
use Rattle.unitary_model.specs.declared.Op.TheVariants.{U, Cx}
use Rattle.unitary_model.specs.Ring.{Ring, nought, plus, minus, turn1, turn, double}
use Rattle.unitary_model.specs.Amplitude.{bit_of, with_bit, one_plus, one_minus, amplitude}
use Rattle.unitary_model.proofs.RingLaws.{nought-plus, plus-nought, plus-turn4, turn8, turn-plus, turn-turn, turn_wraps, turn-nought, double-plus, double-turn, double-double}
use Rattle.amplitude_exact.specs.Entries.{branches}
use Rattle.amplitude_exact.specs.Columns.{bits, IsWithin, entry_of, others, IsValue}
use Rattle.amplitude_exact.proofs.SizeLaws.{within-plus, within-minus, within-turn, within-one_plus, within-one_minus}

turn_eights : (m r : ℕ) (v : Ring) → turn (r + 8 * m) v ≡ turn r v
turn_eights zero r v = let e : r + 8 * 0 ≡ r = omega arith in ap (λ k. turn k v) e
turn_eights (suc m) r v = let e : r + 8 * suc m ≡ (r + 8 * m) + 8 = omega arith in ap (λ k. turn k v) e ∙ turn_wraps (r + 8 * m) v ∙ turn_eights m r v

pub turn_rest : (k : ℕ) (v : Ring) → turn (k % 8) v ≡ turn k v
turn_rest k v = let e : k ≡ k % 8 + 8 * (k / 8) = omega arith in sym (ap (λ j. turn j v) e ∙ turn_eights (k / 8) (k % 8) v)

minus-turn : (v : Ring) → minus v ≡ turn 4 v
unfolding minus turn1
minus-turn v = refl

pub turn_half : (k j : ℕ) (v m r : Ring) → k % 8 ≡ j + 4 → m ≡ minus v → r ≡ turn j m → r ≡ turn k v
turn_half k j v m r e n h = h ∙ ap (turn j) (n ∙ minus-turn v) ∙ turn-turn j 4 v ∙ ap (λ i. turn i v) (sym e) ∙ turn_rest k v

double-minus : (n : ℕ) (v : Ring) → double n (minus v) ≡ minus (double n v)
double-minus n v = ap (double n) (minus-turn v) ∙ double-turn n 4 v ∙ sym (minus-turn (double n v))

double-one_plus : (n a : ℕ) (v : Ring) → double n (one_plus a v) ≡ one_plus a (double n v)
double-one_plus n a v = double-plus n v (turn a v) ∙ ap (plus (double n v)) (double-turn n a v)

double-one_minus : (n a : ℕ) (v : Ring) → double n (one_minus a v) ≡ one_minus a (double n v)
double-one_minus n a v = double-plus n v (minus (turn a v)) ∙ ap (plus (double n v)) (double-minus n (turn a v) ∙ ap minus (double-turn n a v))

pub row-double : (n a b c : ℕ) (s : Bool) (v u : Ring) → entry_of a b c s (double n v) (double n u) ≡ double n (entry_of a b c s v u)
unfolding entry_of
row-double n a b c true v u = sym (double-plus n (minus (turn (c + 2) (one_minus a v))) (turn (b + c) (one_plus a u))
    ∙ (λ i. plus (from i) (to i)))
  where
    from : double n (minus (turn (c + 2) (one_minus a v))) ≡ minus (turn (c + 2) (one_minus a (double n v)))
    from = double-minus n (turn (c + 2) (one_minus a v)) ∙ ap minus (double-turn n (c + 2) (one_minus a v) ∙ ap (turn (c + 2)) (double-one_minus n a v))

    to : double n (turn (b + c) (one_plus a u)) ≡ turn (b + c) (one_plus a (double n u))
    to = double-turn n (b + c) (one_plus a u) ∙ ap (turn (b + c)) (double-one_plus n a u)
row-double n a b c false v u = sym (double-plus n (one_plus a v) (turn (b + 2) (one_minus a u))
    ∙ (λ i. plus (double-one_plus n a v i) (to i)))
  where
    to : double n (turn (b + 2) (one_minus a u)) ≡ turn (b + 2) (one_minus a (double n u))
    to = double-turn n (b + 2) (one_minus a u) ∙ ap (turn (b + 2)) (double-one_minus n a u)

-- 1 - w^0 and 1 + w^4 are 0
minus_none : (v : Ring) → one_minus 0 v ≡ nought
minus_none v = ap (plus v) (minus-turn v) ∙ plus-turn4 v

-- 1 - w^4 is 2
minus_two : (v : Ring) → one_minus 4 v ≡ plus v v
minus_two v = ap (plus v) (minus-turn (turn 4 v) ∙ turn8 v)

pub row_turned : (b c : ℕ) (s : Bool) (v u : Ring) → entry_of 0 b c s v u ≡ double 1 (cond s (turn (b + c) u) v)
unfolding entry_of
row_turned b c true v u =
    ap (λ r. plus (minus (turn (c + 2) r)) (turn (b + c) (plus u u))) (minus_none v)
    ∙ ap (λ r. plus (minus r) (turn (b + c) (plus u u))) (turn-nought (c + 2))
    ∙ ap (λ r. plus r (turn (b + c) (plus u u))) (minus-turn nought ∙ turn-nought 4)
    ∙ nought-plus (turn (b + c) (plus u u))
    ∙ turn-plus (b + c) u u
row_turned b c false v u =
    ap (λ r. plus (plus v v) (turn (b + 2) r)) (minus_none u)
    ∙ ap (plus (plus v v)) (turn-nought (b + 2))
    ∙ plus-nought (plus v v)

pub row_exchanged : (b c : ℕ) (s : Bool) (v u : Ring) → entry_of 4 b c s v u ≡ double 1 (cond s (turn (c + 6) v) (turn (b + 2) u))
unfolding entry_of
row_exchanged b c true v u =
    ap (λ r. plus (minus (turn (c + 2) (one_minus 4 v))) (turn (b + c) r)) (plus-turn4 u)
    ∙ ap (plus (minus (turn (c + 2) (one_minus 4 v)))) (turn-nought (b + c))
    ∙ plus-nought (minus (turn (c + 2) (one_minus 4 v)))
    ∙ ap (λ r. minus (turn (c + 2) r)) (minus_two v)
    ∙ minus-turn (turn (c + 2) (plus v v))
    ∙ turn-turn 4 (c + 2) (plus v v)
    ∙ ap (λ k. turn k (plus v v)) six
    ∙ turn-plus (c + 6) v v
  where
    six : 4 + (c + 2) ≡ c + 6
    six = omega arith
row_exchanged b c false v u =
    ap (λ r. plus r (turn (b + 2) (one_minus 4 u))) (plus-turn4 v)
    ∙ nought-plus (turn (b + 2) (one_minus 4 u))
    ∙ ap (turn (b + 2)) (minus_two u)
    ∙ turn-plus (b + 2) u u

pub within-row : (m a b c : ℕ) (s : Bool) (v u : Ring) → IsWithin m v → IsWithin m u → IsWithin ((m + m) + (m + m)) (entry_of a b c s v u)
unfolding entry_of
within-row m a b c true v u h g =
    within-plus (m + m) (m + m) _ _ (within-minus (m + m) _ (within-turn (m + m) (c + 2) _ (within-one_minus m a v h))) (within-turn (m + m) (b + c) _ (within-one_plus m a u g))
within-row m a b c false v u h g =
    within-plus (m + m) (m + m) _ _ (within-one_plus m a v h) (within-turn (m + m) (b + 2) _ (within-one_minus m a u g))

-- ---- a value with an operation more in front
pub value-cx : (n : ℕ) (us : List Op) (y : List Bool) (i j c t : ℕ) (v : Ring) →
    (let x = bits n i in bits n j ≡ cond (bit_of x c) (with_bit x t (not (bit_of x t))) x) → IsValue n us y j v → IsValue n (Cx c t ∷ us) y i v
value-cx n us y i j c t v f h = record { value = ap (λ z. amplitude us z y) (sym f) ∙ h.value; within = h.within }

-- the row over the values of a column
row-column : (n : ℕ) (us : List Op) (y : List Bool) (i i0 i1 a b c q : ℕ) (s : Bool) (v u : Ring) →
    s ≡ bit_of (bits n i) q → bits n i0 ≡ with_bit (bits n i) q false → bits n i1 ≡ with_bit (bits n i) q true →
    IsValue n us y i0 v → IsValue n us y i1 u → amplitude (U a b c q ∷ us) (bits n i) y ≡ double (others us) (entry_of a b c s v u)
unfolding entry_of
row-column n us y i i0 i1 a b c q s v u hs f0 f1 h0 h1 =
    (λ j. entry_of a b c (sym hs j) (e0 j) (e1 j)) ∙ row-double (others us) a b c s v u
  where
    e0 : amplitude us (with_bit (bits n i) q false) y ≡ double (others us) v
    e0 = ap (λ z. amplitude us z y) (sym f0) ∙ h0.value

    e1 : amplitude us (with_bit (bits n i) q true) y ≡ double (others us) u
    e1 = ap (λ z. amplitude us z y) (sym f1) ∙ h1.value

pub value-branch : (n : ℕ) (us : List Op) (y : List Bool) (i i0 i1 a b c q : ℕ) (s : Bool) (v u r : Ring) →
    s ≡ bit_of (bits n i) q → bits n i0 ≡ with_bit (bits n i) q false → bits n i1 ≡ with_bit (bits n i) q true →
    IsValue n us y i0 v → IsValue n us y i1 u → (a == 0 || a == 4) ≡ false → r ≡ entry_of a b c s v u → IsValue n (U a b c q ∷ us) y i r
value-branch n us y i i0 i1 a b c q s v u r hs f0 f1 h0 h1 t e = record {
  value = row-column n us y i i0 i1 a b c q s v u hs f0 f1 h0 h1 ∙ (λ j. double (if sym t j then suc (others us) else others us) (sym e j));
  within = subst (λ m. IsWithin m r) size (subst (IsWithin ((4 ^ branches us + 4 ^ branches us) + (4 ^ branches us + 4 ^ branches us))) (sym e) (within-row (4 ^ branches us) a b c s v u h0.within h1.within));
}
  where
    four : (4 ^ branches us + 4 ^ branches us) + (4 ^ branches us + 4 ^ branches us) ≡ 4 ^ suc (branches us)
    four = omega arith

    size : (4 ^ branches us + 4 ^ branches us) + (4 ^ branches us + 4 ^ branches us) ≡ 4 ^ (if a == 0 || a == 4 then branches us else suc (branches us))
    size = four ∙ (λ j. 4 ^ (if sym t j then branches us else suc (branches us)))

-- of the others the column has half
value-half : (n : ℕ) (us : List Op) (y : List Bool) (i a b c q : ℕ) (s : Bool) (v u r : Ring) →
    amplitude (U a b c q ∷ us) (bits n i) y ≡ double (others us) (entry_of a b c s v u) →
    (a == 0 || a == 4) ≡ true → entry_of a b c s v u ≡ double 1 r → IsWithin (4 ^ branches us) r → IsValue n (U a b c q ∷ us) y i r
value-half n us y i a b c q s v u r row t e w = record {
  value = row ∙ ap (double (others us)) e ∙ double-double (others us) 1 r ∙ (λ j. double (size j) r);
  within = subst (λ z. IsWithin (4 ^ (if z then branches us else suc (branches us))) r) (sym t) w;
}
  where
    size : others us + 1 ≡ (if a == 0 || a == 4 then suc (others us) else others us)
    size = let k : others us + 1 ≡ suc (others us) = omega arith in k ∙ (λ j. if sym t j then suc (others us) else others us)

within-cond : (m : ℕ) (s : Bool) (v u : Ring) → IsWithin m v → IsWithin m u → IsWithin m (cond s v u)
within-cond m true v u h g = h
within-cond m false v u h g = g

pub value-turned : (n : ℕ) (us : List Op) (y : List Bool) (i i0 i1 a b c q : ℕ) (s : Bool) (v u r : Ring) →
    s ≡ bit_of (bits n i) q → bits n i0 ≡ with_bit (bits n i) q false → bits n i1 ≡ with_bit (bits n i) q true →
    IsValue n us y i0 v → IsValue n us y i1 u → a ≡ 0 → r ≡ cond s (turn (b + c) u) v → IsValue n (U a b c q ∷ us) y i r
value-turned n us y i i0 i1 a b c q s v u r hs f0 f1 h0 h1 z e =
    value-half n us y i a b c q s v u r (row-column n us y i i0 i1 a b c q s v u hs f0 f1 h0 h1) (ap (λ k. k == 0 || k == 4) z)
    (ap (λ k. entry_of k b c s v u) z ∙ row_turned b c s v u ∙ ap (double 1) (sym e))
    (subst (IsWithin (4 ^ branches us)) (sym e) (within-cond (4 ^ branches us) s (turn (b + c) u) v (within-turn (4 ^ branches us) (b + c) u h1.within) h0.within))

pub value-exchanged : (n : ℕ) (us : List Op) (y : List Bool) (i i0 i1 a b c q : ℕ) (s : Bool) (v u r : Ring) →
    s ≡ bit_of (bits n i) q → bits n i0 ≡ with_bit (bits n i) q false → bits n i1 ≡ with_bit (bits n i) q true →
    IsValue n us y i0 v → IsValue n us y i1 u → a ≡ 4 → r ≡ cond s (turn (c + 6) v) (turn (b + 2) u) → IsValue n (U a b c q ∷ us) y i r
value-exchanged n us y i i0 i1 a b c q s v u r hs f0 f1 h0 h1 z e =
    value-half n us y i a b c q s v u r (row-column n us y i i0 i1 a b c q s v u hs f0 f1 h0 h1) (ap (λ k. k == 0 || k == 4) z)
    (ap (λ k. entry_of k b c s v u) z ∙ row_exchanged b c s v u ∙ ap (double 1) (sym e))
    (subst (IsWithin (4 ^ branches us)) (sym e) (within-cond (4 ^ branches us) s (turn (c + 6) v) (turn (b + 2) u) (within-turn (4 ^ branches us) (c + 6) v h0.within) (within-turn (4 ^ branches us) (b + 2) u h1.within)))
