-- Placements as lists and as placings of all wires.
--     front-identity, past_end, length-front, front-same, bit_of-front    bits from 0 to n-1
--     placing size p h        the placing of a placement;  from_low, from_high: which wire is at a place
--     carried-unique          there is one placing by a list
--     carried-list, bits-carried      bits moved as a list are the bits carried
--     same_bits-refl, same_bits-eq, same_bits-append, same_moved      the test of equal bits
--     moved_back              the bits before they were moved;  moved-moved_back
--     identity_placement, moved-identity      the identity
--     composed_placement, moved-composed      one placement after another
use Rattle.std.proofs.Common.{◌≡◌, ℕ, zero, suc, ◌+◌, ◌<◌, ◌≤◌, Bool, true, false, cond, List, [], ◌∷◌, ◌++◌, map, length, append-nil, refl, sym, subst, ◌∙◌, ap, arith, zero-add, inl, inr, ◌⊎◌}
use Rattle.std.proofs.Math.Path.{fun_ext}
use Rattle.std.specs.List.{range_with_len}
use Rattle.std.specs.Prelude.{nat_eq, nat_lt, slice_index}
use Rattle.std.proofs.lemmas.Bool.{cases_lt}
use Rattle.std.proofs.lemmas.Bool.Decides.{nat_tests}
use Rattle.unitary_model.specs.Acts.{Bits}
use Rattle.unitary_model.specs.Amplitude.{bit_of, same_bits}
use Rattle.unitary_model.specs.Placement.{exchanged, position_of, IsPlacement, composed, identity, moved}
use Rattle.std.proofs.lemmas.List.FromFn.{length-range_with_len, get_or-range_with_len, length-map-range_with_len}
use Rattle.std.proofs.lemmas.List.{get_or-map, length-map}
use Rattle.unitary_model.proofs.AmplitudeLaws.{front, front_bit, front_of}
use Rattle.unitary_model.specs.Realised.{Placing, PlacedBy, carried}

-- values at 0 to n-1, in both spellings
map-range : (a n : ℕ) (f : Bits) → map f (range_with_len a n) ≡ front n (λ i. f (a + i))
unfolding front
map-range a zero f = refl
map-range a (suc n) f = λ z. f (first z) ∷ (map-range (a + 1) n f ∙ ap (front n) (fun_ext (λ i. ap f (next i)))) z
  where
    first : a ≡ a + 0
    first = omega arith

    next : (i : ℕ) → (a + 1) + i ≡ a + suc i
    next i = omega arith

pub front-identity : (n : ℕ) (f : Bits) → front n f ≡ map f (identity n)
front-identity n f = ap (front n) (fun_ext (λ i. ap f (sym (zero-add i)))) ∙ sym (map-range 0 n f)

pub past_end : (x : List Bool) (i : ℕ) → length x ≤ i → bit_of x i ≡ false
past_end [] i h = refl
past_end (b ∷ x) zero h = absurd (omega arith)
past_end (b ∷ x) (suc i) h = past_end x i (omega arith)

pub length-front : (n : ℕ) (f : Bits) → length (front n f) ≡ n
unfolding front
length-front zero f = refl
length-front (suc n) f = ap (λ m. suc m) (length-front n (λ i. f (suc i)))

pub front-same : (n : ℕ) (f g : Bits) → ((i : ℕ) → i < n → f i ≡ g i) → front n f ≡ front n g
unfolding front
front-same zero f g h = refl
front-same (suc n) f g h = λ z. h 0 (omega arith) z ∷ front-same n (λ i. f (suc i)) (λ i. g (suc i)) (λ i lt. h (suc i) (omega arith)) z

pub bit_of-front : (n : ℕ) (x : Bits) (i : ℕ) → i < n → bit_of (front n x) i ≡ x i
bit_of-front n x i h = ap (λ y. bit_of y i) (sym (append-nil (front n x))) ∙ front_bit n x [] i h

-- a list placement as a placing of all wires
pub placing : (size : ℕ) (p : List ℕ) → IsPlacement size p → Placing
placing size p h = record {
  to = to;
  from = from;
  from_to = λ i. go_from i (cases_lt i size);
  to_from = λ j. go_to j (cases_lt j size);
}
  where
    to : ℕ → ℕ
    to i = cond (nat_lt i size) (slice_index p i) i

    from : ℕ → ℕ
    from j = cond (nat_lt j size) (position_of j p) j

    low : (i : ℕ) → i < size → nat_lt i size ≡ true
    low i g = grind (arith, nat_tests)

    high : (i : ℕ) → size ≤ i → nat_lt i size ≡ false
    high i g = grind (arith, nat_tests)

    go_from : (i : ℕ) → (i < size) ⊎ (size ≤ i) → from (to i) ≡ i
    go_from i (inl g) = ap from (λ z. cond (low i g z) (slice_index p i) i) ∙ (λ z. cond (low (slice_index p i) (h.within i g) z) (position_of (slice_index p i) p) (slice_index p i)) ∙ h.once i g
    go_from i (inr g) = ap from (λ z. cond (high i g z) (slice_index p i) i) ∙ (λ z. cond (high i g z) (position_of i p) i)

    go_to : (j : ℕ) → (j < size) ⊎ (size ≤ j) → to (from j) ≡ j
    go_to j (inl g) = ap to (λ z. cond (low j g z) (position_of j p) j) ∙ (λ z. cond (low (position_of j p) (h.each j g) z) (slice_index p (position_of j p)) (position_of j p)) ∙ h.there j g
    go_to j (inr g) = ap to (λ z. cond (high j g z) (position_of j p) j) ∙ (λ z. cond (high j g z) (slice_index p j) j)

pub from_low : (size : ℕ) (p : List ℕ) (h : IsPlacement size p) (j : ℕ) → j < size → (placing size p h).from j ≡ position_of j p
unfolding placing
from_low size p h j lt = ap (λ b. cond b (position_of j p) j) (low j lt)
  where
    low : (i : ℕ) → i < size → nat_lt i size ≡ true
    low i g = grind (arith, nat_tests)

pub from_high : (size : ℕ) (p : List ℕ) (h : IsPlacement size p) (j : ℕ) → size ≤ j → (placing size p h).from j ≡ j
unfolding placing
from_high size p h j le = ap (λ b. cond b (position_of j p) j) (high j le)
  where
    high : (i : ℕ) → size ≤ i → nat_lt i size ≡ false
    high i g = grind (arith, nat_tests)

-- bits carried as a list are the bits carried
pub carried-list : (size : ℕ) (p : List ℕ) (h : IsPlacement size p) (f : Bits) (x : List Bool) → ((i : ℕ) → i < size → f i ≡ bit_of x i) → front size (carried (placing size p h) f) ≡ moved size p x
carried-list size p h f x e = front-same size _ (λ j. bit_of x (position_of j p)) (λ j lt. ap f (from_low size p h j lt) ∙ e (position_of j p) (h.each j lt)) ∙ front-identity size (λ j. bit_of x (position_of j p))

pub bits-carried : (size : ℕ) (p : List ℕ) (h : IsPlacement size p) (x : List Bool) → length x ≡ size → bit_of (moved size p x) ≡ carried (placing size p h) (bit_of x)
bits-carried size p h x len = fun_ext (λ j. go j (cases_lt j size))
  where
    same : moved size p x ≡ front size (carried (placing size p h) (bit_of x))
    same = sym (carried-list size p h (bit_of x) x (λ i lt. refl))

    go : (j : ℕ) → (j < size) ⊎ (size ≤ j) → bit_of (moved size p x) j ≡ carried (placing size p h) (bit_of x) j
    go j (inl lt) = ap (λ y. bit_of y j) same ∙ bit_of-front size (carried (placing size p h) (bit_of x)) j lt
    go j (inr le) = ap (λ y. bit_of y j) same ∙ past_end (front size (carried (placing size p h) (bit_of x))) j (omega (arith, length-front size (carried (placing size p h) (bit_of x))))
        ∙ sym (ap (bit_of x) (from_high size p h j le) ∙ past_end x j (omega (arith, len)))

-- ---- the test of equal bits
pub same_bits-refl : (x : List Bool) → same_bits x x ≡ true
same_bits-refl [] = refl
same_bits-refl (true ∷ x) = same_bits-refl x
same_bits-refl (false ∷ x) = same_bits-refl x

pub same_bits-eq : (x y : List Bool) → same_bits x y ≡ true → x ≡ y
same_bits-eq [] [] h = refl
same_bits-eq [] (b ∷ y) h = absurd (cc)
same_bits-eq (b ∷ x) [] h = go b h
  where
    go : (b : Bool) → same_bits (b ∷ x) [] ≡ true → b ∷ x ≡ []
    go true h = absurd (cc)
    go false h = absurd (cc)
same_bits-eq (true ∷ x) (true ∷ y) h = ap (λ r. true ∷ r) (same_bits-eq x y h)
same_bits-eq (false ∷ x) (false ∷ y) h = ap (λ r. false ∷ r) (same_bits-eq x y h)
same_bits-eq (true ∷ x) (false ∷ y) h = absurd (cc)
same_bits-eq (false ∷ x) (true ∷ y) h = absurd (cc)

by_iff : (a b : Bool) → (a ≡ true → b ≡ true) → (b ≡ true → a ≡ true) → a ≡ b
by_iff true true f g = refl
by_iff true false f g = sym (f refl)
by_iff false true f g = g refl
by_iff false false f g = refl

pub front-bit_of : (n : ℕ) (x : List Bool) → length x ≡ n → front n (bit_of x) ≡ x
front-bit_of n x e = ap (λ m. front m (bit_of x)) (sym e) ∙ front_of x

pub same_moved : (size : ℕ) (p : List ℕ) (h : IsPlacement size p) (u y : List Bool) → length u ≡ size → length y ≡ size → same_bits (moved size p u) (moved size p y) ≡ same_bits u y
same_moved size p h u y eu ey = by_iff _ _ down up
  where
    P : Placing
    P = placing size p h

    down : same_bits (moved size p u) (moved size p y) ≡ true → same_bits u y ≡ true
    down e =
        let m : carried P (bit_of u) ≡ carried P (bit_of y) = sym (bits-carried size p h u eu) ∙ ap bit_of (same_bits-eq (moved size p u) (moved size p y) e) ∙ bits-carried size p h y ey in
        let b : bit_of u ≡ bit_of y = fun_ext (λ i. ap (bit_of u) (sym (P.from_to i)) ∙ ap (λ g. g (P.to i)) m ∙ ap (bit_of y) (P.from_to i)) in
        let l : u ≡ y = sym (front-bit_of size u eu) ∙ ap (front size) b ∙ front-bit_of size y ey in
        ap (λ z. same_bits z y) l ∙ same_bits-refl y

    up : same_bits u y ≡ true → same_bits (moved size p u) (moved size p y) ≡ true
    up e = ap (λ z. same_bits (moved size p z) (moved size p y)) (same_bits-eq u y e) ∙ same_bits-refl (moved size p y)

pub same_bits-append : (u v r s : List Bool) → length u ≡ length v → same_bits (u ++ r) (v ++ s) ≡ cond (same_bits u v) (same_bits r s) false
same_bits-append [] [] r s e = refl
same_bits-append [] (b ∷ v) r s e = absurd (omega arith)
same_bits-append (b ∷ u) [] r s e = absurd (omega arith)
same_bits-append (true ∷ u) (true ∷ v) r s e = same_bits-append u v r s (omega arith)
same_bits-append (false ∷ u) (false ∷ v) r s e = same_bits-append u v r s (omega arith)
same_bits-append (true ∷ u) (false ∷ v) r s e = refl
same_bits-append (false ∷ u) (true ∷ v) r s e = refl

-- there is one placing by a list
pub carried-unique : (size : ℕ) (p : List ℕ) (h : IsPlacement size p) (P : Placing) → PlacedBy size p P → carried P ≡ carried (placing size p h)
carried-unique size p h P g = fun_ext (λ x. fun_ext (λ j. ap x (go j (cases_lt j size))))
  where
    go : (j : ℕ) → (j < size) ⊎ (size ≤ j) → P.from j ≡ (placing size p h).from j
    go j (inl lt) = ap P.from (sym (g.low (position_of j p) (h.each j lt) ∙ h.there j lt)) ∙ P.from_to (position_of j p) ∙ sym (from_low size p h j lt)
    go j (inr le) = ap P.from (sym (g.high j le)) ∙ P.from_to j ∙ sym (from_high size p h j le)

-- ---- the bits before they were moved
pub moved_back : (size : ℕ) (p : List ℕ) → IsPlacement size p → (y : List Bool) → List Bool
moved_back size p h y = front size (λ i. bit_of y ((placing size p h).to i))

pub length-moved : (size : ℕ) (p : List ℕ) (x : List Bool) → length (moved size p x) ≡ size
length-moved size p x = length-map-range_with_len (λ j. bit_of x (position_of j p)) 0 size

pub length-moved_back : (size : ℕ) (p : List ℕ) (h : IsPlacement size p) (y : List Bool) → length (moved_back size p h y) ≡ size
unfolding moved_back
length-moved_back size p h y = length-front size (λ i. bit_of y ((placing size p h).to i))

pub moved-moved_back : (size : ℕ) (p : List ℕ) (h : IsPlacement size p) (y : List Bool) → length y ≡ size → moved size p (moved_back size p h y) ≡ y
unfolding moved_back
moved-moved_back size p h y e =
    let P = placing size p h in
    let x : Bits = λ i. bit_of y (P.to i) in
    sym (carried-list size p h x (front size x) (λ i lt. sym (bit_of-front size x i lt)))
    ∙ ap (front size) (fun_ext (λ j. ap (bit_of y) (P.to_from j)))
    ∙ front-bit_of size y e

-- ---- the identity
slice_index-range : (a n i : ℕ) → i < n → slice_index (range_with_len a n) i ≡ a + i
slice_index-range a n i h = get_or-range_with_len a n i 0 h

position_of-range : (a n i : ℕ) → i < n → position_of (a + i) (range_with_len a n) ≡ i
position_of-range a zero i h = absurd (omega arith)
position_of-range a (suc n) zero h = ap (λ t. cond t 0 (suc (position_of (a + 0) (range_with_len (a + 1) n)))) (here a)
  where
    here : (a : ℕ) → nat_eq a (a + 0) ≡ true
    here a = grind (arith, nat_tests)
position_of-range a (suc n) (suc i) h = ap (λ t. cond t 0 (suc (position_of (a + suc i) (range_with_len (a + 1) n)))) (not_here a i)
    ∙ ap (λ j. suc (position_of j (range_with_len (a + 1) n))) (next a i) ∙ ap (λ j. suc j) (position_of-range (a + 1) n i (omega arith))
  where
    not_here : (a i : ℕ) → nat_eq a (a + suc i) ≡ false
    not_here a i = grind (arith, nat_tests)

    next : (a i : ℕ) → a + suc i ≡ (a + 1) + i
    next a i = omega arith

slice_index-identity : (n i : ℕ) → i < n → slice_index (identity n) i ≡ i
slice_index-identity n i h = slice_index-range 0 n i h ∙ zero-add i

position_of-identity : (n i : ℕ) → i < n → position_of i (identity n) ≡ i
position_of-identity n i h = ap (λ j. position_of j (identity n)) (sym (zero-add i)) ∙ position_of-range 0 n i h

pub identity_placement : (n : ℕ) → IsPlacement n (identity n)
identity_placement n = record {
  long = length-range_with_len 0 n;
  within = λ i h. subst (λ j. j < n) (sym (slice_index-identity n i h)) h;
  once = λ i h. ap (λ j. position_of j (identity n)) (slice_index-identity n i h) ∙ position_of-identity n i h;
  each = λ i h. subst (λ j. j < n) (sym (position_of-identity n i h)) h;
  there = λ i h. ap (slice_index (identity n)) (position_of-identity n i h) ∙ slice_index-identity n i h;
}

pub moved-identity : (n : ℕ) (x : List Bool) → length x ≡ n → moved n (identity n) x ≡ x
moved-identity n x e = sym (front-identity n (λ j. bit_of x (position_of j (identity n)))) ∙ front-same n (λ j. bit_of x (position_of j (identity n))) (bit_of x) (λ i h. ap (bit_of x) (position_of-identity n i h)) ∙ front-bit_of n x e

-- ---- one placement after another
position_of-map : (f : ℕ → ℕ) (i : ℕ) (p : List ℕ) → ((k : ℕ) → k < length p → f (slice_index p k) ≡ f i → slice_index p k ≡ i) → position_of (f i) (map f p) ≡ position_of i p
position_of-map f i [] h = refl
position_of-map f i (j ∷ p) h = ap (λ b. cond b 0 (suc (position_of (f i) (map f p)))) same ∙ ap (λ m. cond (nat_eq j i) 0 (suc m)) (position_of-map f i p (λ k lt. h (suc k) (omega (arith, lt))))
  where
    equal : (a b : ℕ) → a ≡ b → nat_eq a b ≡ true
    equal a b e = grind (arith, nat_tests)

    equals : (a b : ℕ) → nat_eq a b ≡ true → a ≡ b
    equals a b e = grind (arith, nat_tests)

    same : nat_eq (f j) (f i) ≡ nat_eq j i
    same = by_iff (nat_eq (f j) (f i)) (nat_eq j i) (λ e. equal j i (h 0 (omega arith) (equals (f j) (f i) e))) (λ e. equal (f j) (f i) (ap f (equals j i e)))

position_of-composed : (size : ℕ) (p q : List ℕ) → IsPlacement size p → IsPlacement size q → (j : ℕ) → j < size → position_of j (composed p q) ≡ position_of (position_of j q) p
position_of-composed size p q hp hq j lt =
    ap (λ m. position_of m (composed p q)) (sym (hq.there j lt))
    ∙ position_of-map (slice_index q) (position_of j q) p (λ k lk e.
    sym (hq.once (slice_index p k) (hp.within k (omega (arith, lk, hp.long)))) ∙ ap (λ m. position_of m q) e ∙ hq.once (position_of j q) (hq.each j lt))

pub composed_placement : (size : ℕ) (p q : List ℕ) → IsPlacement size p → IsPlacement size q → IsPlacement size (composed p q)
composed_placement size p q hp hq = record {
  long = length-map p (slice_index q) ∙ hp.long;
  within = λ i lt. subst (λ m. m < size) (sym (entry i lt)) (hq.within (slice_index p i) (hp.within i lt));
  once = λ i lt. ap (λ m. position_of m (composed p q)) (entry i lt)
      ∙ position_of-composed size p q hp hq (slice_index q (slice_index p i)) (hq.within (slice_index p i) (hp.within i lt))
      ∙ ap (λ m. position_of m p) (hq.once (slice_index p i) (hp.within i lt)) ∙ hp.once i lt;
  each = λ j lt. subst (λ m. m < size) (sym (position_of-composed size p q hp hq j lt)) (hp.each (position_of j q) (hq.each j lt));
  there = λ j lt. ap (slice_index (composed p q)) (position_of-composed size p q hp hq j lt)
      ∙ entry (position_of (position_of j q) p) (hp.each (position_of j q) (hq.each j lt))
      ∙ ap (slice_index q) (hp.there (position_of j q) (hq.each j lt)) ∙ hq.there j lt;
}
  where
    entry : (i : ℕ) → i < size → slice_index (composed p q) i ≡ slice_index q (slice_index p i)
    entry i lt = get_or-map (slice_index q) p i 0 0 (omega (arith, lt, hp.long))

bit_of-moved : (size : ℕ) (p : List ℕ) (x : List Bool) (j : ℕ) → j < size → bit_of (moved size p x) j ≡ bit_of x (position_of j p)
bit_of-moved size p x j lt =
    let f : Bits = λ k. bit_of x (position_of k p) in
    ap (λ y. bit_of y j) (sym (front-identity size f)) ∙ bit_of-front size f j lt

pub moved-composed : (size : ℕ) (p q : List ℕ) → IsPlacement size p → IsPlacement size q → (x : List Bool) → moved size (composed p q) x ≡ moved size q (moved size p x)
moved-composed size p q hp hq x =
    let f : Bits = λ j. bit_of x (position_of j (composed p q)) in
    let g : Bits = λ j. bit_of (moved size p x) (position_of j q) in
    sym (front-identity size f)
    ∙ front-same size f g (λ j lt. ap (bit_of x) (position_of-composed size p q hp hq j lt) ∙ sym (bit_of-moved size p x (position_of j q) (hq.each j lt)))
    ∙ front-identity size g

-- ---- two qubits exchanged
pub exchanged-twice : (a b j : ℕ) → exchanged a b (exchanged a b j) ≡ j
unfolding exchanged
exchanged-twice a b j = grind (arith, nat_tests)

pub exchanged-below : (n a b j : ℕ) → a < n → b < n → j < n → exchanged a b j < n
unfolding exchanged
exchanged-below n a b j ha hb hj = grind (arith, nat_tests)

exchanged-same : (a b i j : ℕ) → nat_eq (exchanged a b i) (exchanged a b j) ≡ nat_eq i j
unfolding exchanged
exchanged-same a b i j = grind (arith, nat_tests)

position-exchanged : (a b j : ℕ) (q : List ℕ) → position_of (exchanged a b j) (map (exchanged a b) q) ≡ position_of j q
position-exchanged a b j [] = refl
position-exchanged a b j (i ∷ q) = λ z. cond (exchanged-same a b i j z) 0 (suc (position-exchanged a b j q z))

pub placement-exchanged : (n a b : ℕ) (q : List ℕ) → a < n → b < n → IsPlacement n q → IsPlacement n (map (exchanged a b) q)
placement-exchanged n a b q ha hb h = record {
  long = length-map q (exchanged a b) ∙ h.long;
  within = λ i lt. subst (λ k. k < n) (sym (at i lt)) (exchanged-below n a b (slice_index q i) ha hb (h.within i lt));
  once = λ i lt. ap (λ k. position_of k (map (exchanged a b) q)) (at i lt) ∙ position-exchanged a b (slice_index q i) q ∙ h.once i lt;
  each = λ j lt. subst (λ k. k < n) (sym (where_is j)) (h.each (exchanged a b j) (below j lt));
  there = λ j lt.
      ap (slice_index (map (exchanged a b) q)) (where_is j)
      ∙ at (position_of (exchanged a b j) q) (h.each (exchanged a b j) (below j lt))
      ∙ ap (exchanged a b) (h.there (exchanged a b j) (below j lt))
      ∙ exchanged-twice a b j;
}
  where
    at : (i : ℕ) → i < n → slice_index (map (exchanged a b) q) i ≡ exchanged a b (slice_index q i)
    at i lt = get_or-map (exchanged a b) q i 0 0 (omega (arith, lt, h.long))

    below : (j : ℕ) → j < n → exchanged a b j < n
    below j lt = exchanged-below n a b j ha hb lt

    where_is : (j : ℕ) → position_of j (map (exchanged a b) q) ≡ position_of (exchanged a b j) q
    where_is j = ap (λ k. position_of k (map (exchanged a b) q)) (sym (exchanged-twice a b j)) ∙ position-exchanged a b (exchanged a b j) q
