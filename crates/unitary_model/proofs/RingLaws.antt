-- Laws of the ring Z[w].
--     ring_path               values are equal where their parts are
--     plus_assoc, plus_comm, nought-plus, plus-nought, swap_inner     sums
--     plus-turn4, turn8, turn-plus, turn-turn, turn_wraps, turn_cancel     turns; w^4 is -1 and w^8 is 1
--     turn_same       turns that are alike modulo 8
--     double-plus, double-turn, double-double, double-swap, double_cancel  doublings
--     turn-nought, double-nought      nothing turned and nothing doubled
--     mul-plus, mul-turn1, nought-mul, unit-mul, double-mul, turn-mul      products, in their first factor
use Rattle.std.proofs.Common.{◌≡◌, ℕ, zero, suc, ◌+◌, ◌*◌, ◌/◌, ◌%◌, refl, sym, subst, ◌∙◌, ap, arith, zero-add, suc-add}
use Rattle.std.proofs.Math.Nat.{add_comm}
use Rattle.std.proofs.lemmas.Int.{ints}
use Rattle.std.proofs.Math.IntN.{ℤ, pos, ◌+ℤ◌, ◌*ℤ◌, ℤ_ind, one, pred_ℤ, ◌-ℤ◌, suc_ℤ-+ℤ, pred_ℤ-+ℤ, +ℤ_one, -ℤ_one, +ℤ_invl, zero-*ℤ, *ℤ-one, *ℤ_comm, suc_ℤ, suc_ℤ-*ℤ, pred_ℤ-*ℤ, neg_ℤ, +ℤ_assoc, +ℤ_comm, +ℤ_idl, +ℤ_idr, +ℤ_invr, neg_ℤ-+ℤ, neg_ℤ-neg_ℤ}
use Rattle.unitary_model.specs.Ring.{Ring, ring, nought, unit, plus, turn1, turn, double, times, mul}

-- the parts one by one
pub ring_path : {x x' y y' z z' u u' : ℤ} → x ≡ x' → y ≡ y' → z ≡ z' → u ≡ u' → ring x y z u ≡ ring x' y' z' u'
ring_path p q r s = λ i. ring (p i) (q i) (r i) (s i)

pub plus_assoc : (v u w : Ring) → plus (plus v u) w ≡ plus v (plus u w)
unfolding plus
plus_assoc v u w = ring_path (+ℤ_assoc v.a u.a w.a) (+ℤ_assoc v.b u.b w.b) (+ℤ_assoc v.c u.c w.c) (+ℤ_assoc v.d u.d w.d)

pub plus_comm : (v u : Ring) → plus v u ≡ plus u v
unfolding plus
plus_comm v u = ring_path (+ℤ_comm v.a u.a) (+ℤ_comm v.b u.b) (+ℤ_comm v.c u.c) (+ℤ_comm v.d u.d)

pub nought-plus : (v : Ring) → plus nought v ≡ v
unfolding plus nought
nought-plus v = ring_path (+ℤ_idl v.a) (+ℤ_idl v.b) (+ℤ_idl v.c) (+ℤ_idl v.d)

pub plus-nought : (v : Ring) → plus v nought ≡ v
unfolding plus nought
plus-nought v = ring_path (+ℤ_idr v.a) (+ℤ_idr v.b) (+ℤ_idr v.c) (+ℤ_idr v.d)

-- what a half turn adds cancels
pub plus-turn4 : (v : Ring) → plus v (turn 4 v) ≡ nought
unfolding plus nought turn1
plus-turn4 v = ring_path (+ℤ_invr v.a) (+ℤ_invr v.b) (+ℤ_invr v.c) (+ℤ_invr v.d)

pub turn8 : (v : Ring) → turn 8 v ≡ v
unfolding turn1
turn8 v = ring_path (neg_ℤ-neg_ℤ v.a) (neg_ℤ-neg_ℤ v.b) (neg_ℤ-neg_ℤ v.c) (neg_ℤ-neg_ℤ v.d)

pub turn1-plus : (v u : Ring) → turn1 (plus v u) ≡ plus (turn1 v) (turn1 u)
unfolding turn1 plus
turn1-plus v u = ring_path (neg_ℤ-+ℤ v.d u.d) refl refl refl

pub turn-plus : (k : ℕ) (v u : Ring) → turn k (plus v u) ≡ plus (turn k v) (turn k u)
turn-plus zero v u = refl
turn-plus (suc k) v u = ap turn1 (turn-plus k v u) ∙ turn1-plus (turn k v) (turn k u)

pub turn-turn : (j k : ℕ) (v : Ring) → turn j (turn k v) ≡ turn (j + k) v
turn-turn zero k v = ap (λ n. turn n v) (sym (zero-add k))
turn-turn (suc j) k v = ap turn1 (turn-turn j k v) ∙ ap (λ n. turn n v) (sym (suc-add j k))

pub turn_cancel : (k : ℕ) (v u : Ring) → turn k v ≡ turn k u → v ≡ u
turn_cancel zero v u h = h
turn_cancel (suc k) v u h = turn_cancel k v u (sym (turn8 (turn k v)) ∙ ap (turn 7) h ∙ turn8 (turn k u))

pub turn_wraps : (k : ℕ) (v : Ring) → turn (k + 8) v ≡ turn k v
turn_wraps k v = sym (turn-turn k 8 v) ∙ ap (turn k) (turn8 v)

-- turns that are alike modulo 8
turns_of : (q k : ℕ) (v : Ring) → turn (k + q * 8) v ≡ turn k v
turns_of zero k v = ap (λ m. turn m v) (none k)
  where
    none : (k : ℕ) → k + 0 * 8 ≡ k
    none k = omega arith
turns_of (suc q) k v = ap (λ m. turn m v) (more q k) ∙ turn_wraps (k + q * 8) v ∙ turns_of q k v
  where
    more : (q k : ℕ) → k + suc q * 8 ≡ k + q * 8 + 8
    more q k = omega arith

pub turn_same : (a b : ℕ) (v : Ring) → a % 8 ≡ b % 8 → turn a v ≡ turn b v
turn_same a b v h = ap (λ m. turn m v) (parts a) ∙ turns_of (a / 8) (a % 8) v ∙ ap (λ m. turn m v) h ∙ sym (turns_of (b / 8) (b % 8) v) ∙ sym (ap (λ m. turn m v) (parts b))
  where
    parts : (a : ℕ) → a ≡ a % 8 + a / 8 * 8
    parts a = omega arith

pub swap_inner : (p q r s : Ring) → plus (plus p q) (plus r s) ≡ plus (plus p r) (plus q s)
swap_inner p q r s =
    plus_assoc p q (plus r s) ∙ ap (plus p) (sym (plus_assoc q r s) ∙ ap (λ t. plus t s) (plus_comm q r) ∙ plus_assoc r q s) ∙ sym (plus_assoc p r (plus q s))

pub double-plus : (n : ℕ) (v u : Ring) → double n (plus v u) ≡ plus (double n v) (double n u)
double-plus zero v u = refl
double-plus (suc n) v u = ap (λ t. plus t t) (double-plus n v u) ∙ swap_inner (double n v) (double n u) (double n v) (double n u)

pub double-turn : (n k : ℕ) (v : Ring) → double n (turn k v) ≡ turn k (double n v)
double-turn zero k v = refl
double-turn (suc n) k v = ap (λ t. plus t t) (double-turn n k v) ∙ sym (turn-plus k (double n v) (double n v))

pub double-double : (m n : ℕ) (v : Ring) → double m (double n v) ≡ double (m + n) v
double-double zero n v = ap (λ k. double k v) (sym (zero-add n))
double-double (suc m) n v = ap (λ t. plus t t) (double-double m n v) ∙ ap (λ k. double k v) (sym (suc-add m n))

twice_cancel : (x y : ℤ) → x +ℤ x ≡ y +ℤ y → x ≡ y
twice_cancel x y h = omega (arith, ints)

pub double_cancel : (n : ℕ) (v u : Ring) → double n v ≡ double n u → v ≡ u
unfolding plus
double_cancel zero v u h = h
double_cancel (suc n) v u h = double_cancel n v u (
    let p = double n v in let q = double n u in
    ring_path (twice_cancel p.a q.a (ap (λ (r : Ring). r.a) h)) (twice_cancel p.b q.b (ap (λ (r : Ring). r.b) h)) (twice_cancel p.c q.c (ap (λ (r : Ring). r.c) h)) (twice_cancel p.d q.d (ap (λ (r : Ring). r.d) h)))

pub turn1-nought : nought ≡ turn1 nought
unfolding turn1 nought
turn1-nought = refl

pub turn-nought : (k : ℕ) → turn k nought ≡ nought
turn-nought zero = refl
turn-nought (suc k) = ap turn1 (turn-nought k) ∙ sym turn1-nought

pub double-nought : (n : ℕ) → double n nought ≡ nought
double-nought zero = refl
double-nought (suc n) = ap (λ v. plus v v) (double-nought n) ∙ plus-nought nought

pub double-swap : (m n : ℕ) (v : Ring) → double m (double n v) ≡ double n (double m v)
double-swap m n v = double-double m n v ∙ ap (λ i. double i v) (add_comm m n) ∙ sym (double-double n m v)

-- ---- multiples
add_up : (m k x : ℤ) → (m +ℤ k) *ℤ x ≡ (m *ℤ x) +ℤ (k *ℤ x) → (suc_ℤ m +ℤ k) *ℤ x ≡ (suc_ℤ m *ℤ x) +ℤ (k *ℤ x)
add_up m k x h = ap (λ z. z *ℤ x) (suc_ℤ-+ℤ m k) ∙ suc_ℤ-*ℤ (m +ℤ k) x ∙ ap (λ z. z +ℤ x) h ∙ move (m *ℤ x) (k *ℤ x) x ∙ ap (λ z. z +ℤ (k *ℤ x)) (sym (suc_ℤ-*ℤ m x))
  where
    move : (p q r : ℤ) → (p +ℤ q) +ℤ r ≡ (p +ℤ r) +ℤ q
    move p q r = omega (arith, ints)

add_down : (m k x : ℤ) → (m +ℤ k) *ℤ x ≡ (m *ℤ x) +ℤ (k *ℤ x) → (pred_ℤ m +ℤ k) *ℤ x ≡ (pred_ℤ m *ℤ x) +ℤ (k *ℤ x)
add_down m k x h = ap (λ z. z *ℤ x) (pred_ℤ-+ℤ m k) ∙ pred_ℤ-*ℤ (m +ℤ k) x ∙ ap (λ z. z -ℤ x) h ∙ move (m *ℤ x) (k *ℤ x) x ∙ ap (λ z. z +ℤ (k *ℤ x)) (sym (pred_ℤ-*ℤ m x))
  where
    move : (p q r : ℤ) → (p +ℤ q) -ℤ r ≡ (p -ℤ r) +ℤ q
    move p q r = omega (arith, ints)

pub add_mul : (m k x : ℤ) → (m +ℤ k) *ℤ x ≡ (m *ℤ x) +ℤ (k *ℤ x)
add_mul m k x =
    let P : ℤ → Type 0 = λ z. (z +ℤ k) *ℤ x ≡ (z *ℤ x) +ℤ (k *ℤ x) in
    ℤ_ind P (ap (λ z. z *ℤ x) (+ℤ_idl k) ∙ sym (+ℤ_idl (k *ℤ x)) ∙ ap (λ z. z +ℤ (k *ℤ x)) (sym (zero-*ℤ x)))
    (λ n h. subst P (sym (+ℤ_one (pos n))) (add_up (pos n) k x h))
    (λ n h. subst P (sym (-ℤ_one (neg_ℤ (pos n)))) (add_down (neg_ℤ (pos n)) k x h)) m

pub times-plus : (m k : ℤ) (v : Ring) → times (m +ℤ k) v ≡ plus (times m v) (times k v)
unfolding times plus
times-plus m k v = ring_path (add_mul m k v.a) (add_mul m k v.b) (add_mul m k v.c) (add_mul m k v.d)

-- a negative multiple is the multiple of the half turn
neg_mul : (m x : ℤ) → neg_ℤ m *ℤ x ≡ neg_ℤ (m *ℤ x)
neg_mul m x =
    let h : ((neg_ℤ m) *ℤ x) +ℤ (m *ℤ x) ≡ pos 0 = sym (add_mul (neg_ℤ m) m x) ∙ ap (λ z. z *ℤ x) (+ℤ_invl m) ∙ zero-*ℤ x in
    only (neg_ℤ m *ℤ x) (m *ℤ x) h
  where
    only : (p q : ℤ) → p +ℤ q ≡ pos 0 → p ≡ neg_ℤ q
    only p q h = omega (arith, ints)

mul_neg : (m x : ℤ) → m *ℤ neg_ℤ x ≡ neg_ℤ (m *ℤ x)
mul_neg m x = *ℤ_comm m (neg_ℤ x) ∙ neg_mul x m ∙ ap neg_ℤ (*ℤ_comm x m)

pub times-turn1 : (m : ℤ) (v : Ring) → times m (turn1 v) ≡ turn1 (times m v)
unfolding times turn1
times-turn1 m v = ring_path (mul_neg m v.d) refl refl refl

pub times-neg : (m : ℤ) (v : Ring) → times (neg_ℤ m) v ≡ turn 4 (times m v)
unfolding times turn1
times-neg m v = ring_path (neg_mul m v.a) (neg_mul m v.b) (neg_mul m v.c) (neg_mul m v.d)

-- the product with a fixed value keeps sums and turns
pub mul-plus : (c e v : Ring) → mul (plus c e) v ≡ plus (mul c v) (mul e v)
unfolding mul plus
mul-plus c e v =
    (λ i. plus (plus (times-plus c.a e.a v i) (times-plus c.b e.b (turn 1 v) i)) (plus (times-plus c.c e.c (turn 2 v) i) (times-plus c.d e.d (turn 3 v) i)))
    ∙ (λ i. plus (swap_inner (times c.a v) (times e.a v) (times c.b (turn 1 v)) (times e.b (turn 1 v)) i) (swap_inner (times c.c (turn 2 v)) (times e.c (turn 2 v)) (times c.d (turn 3 v)) (times e.d (turn 3 v)) i))
    ∙ swap_inner (plus (times c.a v) (times c.b (turn 1 v))) (plus (times e.a v) (times e.b (turn 1 v))) (plus (times c.c (turn 2 v)) (times c.d (turn 3 v))) (plus (times e.c (turn 2 v)) (times e.d (turn 3 v)))

four_around : (p q r s : Ring) → plus (plus p q) (plus r s) ≡ plus (plus q r) (plus s p)
four_around p q r s = ap (λ t. plus t (plus r s)) (plus_comm p q) ∙ swap_inner q p r s ∙ ap (plus (plus q r)) (plus_comm p s)

times-turn3 : (m : ℤ) (v : Ring) → turn1 (times m (turn 3 v)) ≡ turn 4 (times m v)
times-turn3 m v = ap turn1 (times-turn1 m (turn 2 v) ∙ ap turn1 (times-turn1 m (turn 1 v) ∙ ap turn1 (times-turn1 m v)))

pub mul-turn1 : (c v : Ring) → mul (turn1 c) v ≡ turn1 (mul c v)
unfolding mul turn1
mul-turn1 c v =
    (λ i. plus (plus (times-neg c.d v i) (times-turn1 c.a v i)) (plus (times-turn1 c.b (turn 1 v) i) (times-turn1 c.c (turn 2 v) i)))
    ∙ four_around (turn 4 (times c.d v)) (turn1 (times c.a v)) (turn1 (times c.b (turn 1 v))) (turn1 (times c.c (turn 2 v)))
    ∙ ap (λ t. plus (plus (turn1 (times c.a v)) (turn1 (times c.b (turn 1 v)))) (plus (turn1 (times c.c (turn 2 v))) t)) (sym (times-turn3 c.d v))
    ∙ sym (turn1-plus (plus (times c.a v) (times c.b (turn 1 v))) (plus (times c.c (turn 2 v)) (times c.d (turn 3 v)))
    ∙ (λ i. plus (turn1-plus (times c.a v) (times c.b (turn 1 v)) i) (turn1-plus (times c.c (turn 2 v)) (times c.d (turn 3 v)) i)))

zero_times : (v : Ring) → times (pos 0) v ≡ nought
unfolding times nought
zero_times v = ring_path (zero-*ℤ v.a) (zero-*ℤ v.b) (zero-*ℤ v.c) (zero-*ℤ v.d)

one_mul : (x : ℤ) → pos 1 *ℤ x ≡ x
unfolding one
one_mul x = *ℤ_comm (pos 1) x ∙ *ℤ-one x

pub nought-mul : (v : Ring) → mul nought v ≡ nought
unfolding mul nought plus
nought-mul v = λ i. plus (plus (zero_times v i) (zero_times (turn 1 v) i)) (plus (zero_times (turn 2 v) i) (zero_times (turn 3 v) i))

pub unit-mul : (v : Ring) → mul unit v ≡ v
unfolding mul unit plus nought times
unit-mul v =
    (λ i. plus (plus (ring_path (one_mul v.a) (one_mul v.b) (one_mul v.c) (one_mul v.d) i) (zero_times (turn 1 v) i)) (plus (zero_times (turn 2 v) i) (zero_times (turn 3 v) i)))
    ∙ plus-nought (plus v nought) ∙ plus-nought v

pub double-mul : (n : ℕ) (c v : Ring) → double n (mul c v) ≡ mul (double n c) v
double-mul zero c v = refl
double-mul (suc n) c v = ap (λ u. plus u u) (double-mul n c v) ∙ sym (mul-plus (double n c) (double n c) v)

pub turn-mul : (k : ℕ) (c v : Ring) → turn k (mul c v) ≡ mul (turn k c) v
turn-mul zero c v = refl
turn-mul (suc k) c v = ap turn1 (turn-mul k c v) ∙ sym (mul-turn1 (turn k c) v)
