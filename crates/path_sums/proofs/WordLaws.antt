-- Sets as words.
--     set-append              the set of one list behind another is their sum
--     bit-here, bit-further   whether a variable is in the first word, and else
--     least-fits, least-there the least variable of the first word
--     IsMerging row xs ys m   a row, and what is left of two sets, have the sum m, and each is in order behind the row
--     merging-turned, merging-left, merging-both, merging-end      the sum of two sets word by word
use Rattle.std.proofs.Common.{◌≡◌, ℕ, zero, suc, ◌+◌, ◌-◌, ◌*◌, ◌/◌, ◌%◌, ◌^◌, ◌<◌, ◌≤◌, Bool, true, false, cond, List, [], ◌∷◌, ◌++◌, length, get_or, drop, drop-cons, refl, sym, subst, ◌∙◌, ap, arith, ◌⊎◌, inl, inr, add-zero, append_assoc, append-nil, w64}
use Rattle.std.specs.Prelude.{bit_xor, nat_eq}
use Rattle.std.specs.Int.{bit_at, trailing_zeros}
use Rattle.std.specs.Int.Bits.{xor_assoc, xor_comm, xor_zero_l, xor_zero_r}
use Rattle.std.proofs.lemmas.Bool.{cases_lt}
use Rattle.std.proofs.lemmas.Bool.Decides.{nat_tests}
use Rattle.std.proofs.lemmas.Nat.{pow_pos}
use Rattle.std.proofs.lemmas.Nat.Bits.{bit_at-lt, bit_at_xor, bit_at-zero, bit_at_cat_low, bit_at_cat_high, bit_at-trailing_zeros, same_from_bits}
use Rattle.path_sums.specs.declared.words.Word.{Word}
use Rattle.path_sums.specs.Words.{AreAscending, IsFurther, word_sum, words_set}

-- ---- sums
pub set-append : (xs ys : List Word) → words_set (xs ++ ys) ≡ bit_xor (words_set xs) (words_set ys)
set-append [] ys = sym (xor_zero_l (words_set ys))
set-append (x ∷ xs) ys = ap (bit_xor (x.bits * 2 ^ (64 * x.place))) (set-append xs ys) ∙ sym (xor_assoc (x.bits * 2 ^ (64 * x.place)) (words_set xs) (words_set ys))

-- a word's bits, and those of none
placed : (b k v : ℕ) → k ≤ v → bit_at (b * 2 ^ k) v ≡ bit_at b (v - k)
placed b k v le = ap (λ n. bit_at n v) (sym (add-zero (b * 2 ^ k))) ∙ bit_at_cat_high b k 0 v (pow_pos k) le

unplaced : (b k v : ℕ) → v < k → bit_at (b * 2 ^ k) v ≡ 0
unplaced b k v lt = ap (λ n. bit_at n v) (sym (add-zero (b * 2 ^ k))) ∙ bit_at_cat_low b k 0 v lt ∙ bit_at-zero v

at_one_place : (k a b : ℕ) → bit_xor (a * 2 ^ k) (b * 2 ^ k) ≡ bit_xor a b * 2 ^ k
at_one_place k a b = same_from_bits (bit_xor (a * 2 ^ k) (b * 2 ^ k)) (bit_xor a b * 2 ^ k) (λ v. go v (cases_lt v k))
  where
    go : (v : ℕ) → (v < k) ⊎ (k ≤ v) → bit_at (bit_xor (a * 2 ^ k) (b * 2 ^ k)) v ≡ bit_at (bit_xor a b * 2 ^ k) v
    go v (inl lt) = bit_at_xor (a * 2 ^ k) (b * 2 ^ k) v ∙ (λ i. (unplaced a k v lt i + unplaced b k v lt i) % 2) ∙ sym (unplaced (bit_xor a b) k v lt)
    go v (inr le) = bit_at_xor (a * 2 ^ k) (b * 2 ^ k) v ∙ (λ i. (placed a k v le i + placed b k v le i) % 2) ∙ sym (bit_at_xor a b (v - k)) ∙ sym (placed (bit_xor a b) k v le)

-- ---- one variable
-- a word has no variable of a greater place, nor of a lesser
narrow : (b n : ℕ) → b < 2 ^ 64 → 64 ≤ n → bit_at b n ≡ 0
narrow b n lt le = ap (λ m. bit_at m n) (sym (zero_and b)) ∙ bit_at_cat_high 0 64 b n lt le ∙ bit_at-zero (n - 64)
  where
    zero_and : (b : ℕ) → 0 * 2 ^ 64 + b ≡ b
    zero_and b = omega arith

other_place : (w : Word) (v : ℕ) → w.bits < 2 ^ 64 → (w.place ≡ v / 64 → ⊥) → bit_at (w.bits * 2 ^ (64 * w.place)) v ≡ 0
other_place w v lt ne = go (cases_lt v (64 * w.place))
  where
    go : (v < 64 * w.place) ⊎ (64 * w.place ≤ v) → bit_at (w.bits * 2 ^ (64 * w.place)) v ≡ 0
    go (inl l) = unplaced w.bits (64 * w.place) v l
    go (inr l) = placed w.bits (64 * w.place) v l ∙ narrow w.bits (v - 64 * w.place) lt (beyond (cases_lt (v - 64 * w.place) 64))
      where
        beyond : (v - 64 * w.place < 64) ⊎ (64 ≤ v - 64 * w.place) → 64 ≤ v - 64 * w.place
        beyond (inl s) = let same : w.place ≡ v / 64 = omega arith in absurd (ne same)
        beyond (inr s) = s

own_place : (w : Word) (v : ℕ) → w.place ≡ v / 64 → bit_at (w.bits * 2 ^ (64 * w.place)) v ≡ bit_at w.bits (v % 64)
own_place w v e = let r : v - 64 * w.place ≡ v % 64 = omega arith in placed w.bits (64 * w.place) v (omega arith) ∙ ap (bit_at w.bits) r

bit-behind : (ws : List Word) (p v : ℕ) → AreAscending ws → IsFurther p ws → v / 64 ≤ p → bit_at (words_set ws) v ≡ 0
bit-behind [] p v h b le = bit_at-zero v
bit-behind (w ∷ ws) p v h b le =
    bit_at_xor (w.bits * 2 ^ (64 * w.place)) (words_set ws) v
    ∙ (λ i. (other_place w v h.1 (λ e. omega arith) i + bit-behind ws w.place v h.4 h.3 (omega arith) i) % 2)

first_bit : (w : Word) (ws : List Word) (v : ℕ) → AreAscending (w ∷ ws) → w.place ≡ v / 64 → bit_at (words_set (w ∷ ws)) v ≡ bit_at w.bits (v % 64)
first_bit w ws v h e =
    let small = bit_at-lt w.bits (v % 64) in
    bit_at_xor (w.bits * 2 ^ (64 * w.place)) (words_set ws) v
    ∙ (λ i. (own_place w v e i + bit-behind ws w.place v h.4 h.3 (omega arith) i) % 2)
    ∙ omega arith

first_other : (w : Word) (ws : List Word) (v : ℕ) → w.bits < 2 ^ 64 → (w.place ≡ v / 64 → ⊥) → bit_at (words_set (w ∷ ws)) v ≡ bit_at (words_set ws) v
first_other w ws v lt ne =
    let small = bit_at-lt (words_set ws) v in
    bit_at_xor (w.bits * 2 ^ (64 * w.place)) (words_set ws) v
    ∙ (λ i. (other_place w v lt ne i + bit_at (words_set ws) v) % 2)
    ∙ omega arith

pub words-from : (ws : List Word) (i : ℕ) → AreAscending ws → AreAscending (drop i ws)
words-from ws zero h = h
words-from [] (suc i) h = tt
words-from (w ∷ ws) (suc i) h = words-from ws i h.4

pub word-next : (ws : List Word) (i : ℕ) (d : Word) → i < length ws → drop i ws ≡ get_or ws i d ∷ drop (i + 1) ws
word-next ws i d lt = let after : suc i ≡ i + 1 = omega arith in drop-cons ws i d lt ∙ ap (λ k. get_or ws i d ∷ drop k ws) after

pub word-small : (ws : List Word) (i : ℕ) (d : Word) → AreAscending ws → i < length ws → (get_or ws i d).bits < 2 ^ 64
word-small ws i d h lt = (subst AreAscending (word-next ws i d lt) (words-from ws i h)).1

pub bit-here : (ws : List Word) (i : ℕ) (d : Word) (v : ℕ) → AreAscending ws → i < length ws → (get_or ws i d).place ≡ v / 64 → bit_at (words_set (drop i ws)) v ≡ bit_at (get_or ws i d).bits (v % 64)
bit-here ws i d v h lt e =
    let next : drop i ws ≡ get_or ws i d ∷ drop (i + 1) ws = word-next ws i d lt in
    ap (λ xs. bit_at (words_set xs) v) next ∙ first_bit (get_or ws i d) (drop (i + 1) ws) v (subst AreAscending next (words-from ws i h)) e

pub bit-further : (ws : List Word) (i : ℕ) (d : Word) (v : ℕ) → AreAscending ws → i < length ws → ((get_or ws i d).place ≡ v / 64 → ⊥) → bit_at (words_set (drop i ws)) v ≡ bit_at (words_set (drop (i + 1) ws)) v
bit-further ws i d v h lt ne =
    let next : drop i ws ≡ get_or ws i d ∷ drop (i + 1) ws = word-next ws i d lt in
    ap (λ xs. bit_at (words_set xs) v) next ∙ first_other (get_or ws i d) (drop (i + 1) ws) v (subst AreAscending next (words-from ws i h)).1 ne

-- ---- the least variable
pub least-fits : (ws : List Word) (d : Word) → AreAscending ws → 0 < length ws → 64 * (get_or ws 0 d).place + trailing_zeros w64 (get_or ws 0 d).bits < 2 ^ 64
least-fits [] d h lt = absurd (omega arith)
least-fits (x ∷ ws) d h lt = let t = bit_at-trailing_zeros w64 x.bits h.0 h.1 in omega (arith, t.0, h.2)

pub least-there : (ws : List Word) (d : Word) → AreAscending ws → 0 < length ws → bit_at (words_set ws) (64 * (get_or ws 0 d).place + trailing_zeros w64 (get_or ws 0 d).bits) ≡ 1
least-there [] d h lt = absurd (omega arith)
least-there (x ∷ ws) d h lt =
    let t = bit_at-trailing_zeros w64 x.bits h.0 h.1 in
    let v : ℕ = 64 * x.place + trailing_zeros w64 x.bits in
    let q : x.place ≡ v / 64 = omega (arith, t.0) in
    let r : v % 64 ≡ trailing_zeros w64 x.bits = omega (arith, t.0) in
    first_bit x ws v h q ∙ ap (bit_at x.bits) r ∙ t.1

-- ---- order
same_first : (p : ℕ) (row : List Word) (x : Word) (xs ys : List Word) → IsFurther p (row ++ x ∷ xs) → IsFurther p (row ++ x ∷ ys)
same_first p [] x xs ys h = h
same_first p (r ∷ row) x xs ys h = h

inserted : (row : List Word) (x y : Word) (xs ys : List Word) → AreAscending (row ++ x ∷ xs) → AreAscending (row ++ y ∷ ys) → x.place < y.place → AreAscending (row ++ x ∷ y ∷ ys)
inserted [] x y xs ys f g lt = (f.0, f.1, f.2, lt, g)
inserted (r ∷ row) x y xs ys f g lt = (f.0, f.1, f.2, same_first r.place row x xs (y ∷ ys) f.3, inserted row x y xs ys f.4 g.4 lt)

behind_next : (p q : ℕ) (xs : List Word) → p < q → IsFurther q xs → IsFurther p xs
behind_next p q [] lt h = tt
behind_next p q (x ∷ xs) lt h = omega arith

past : (p : ℕ) (row : List Word) (x : Word) (xs : List Word) → IsFurther p (row ++ x ∷ xs) → AreAscending (row ++ x ∷ xs) → IsFurther p (row ++ xs)
past p [] x xs h a = behind_next p x.place xs h a.3
past p (r ∷ row) x xs h a = h

without : (row : List Word) (x : Word) (xs : List Word) → AreAscending (row ++ x ∷ xs) → AreAscending (row ++ xs)
without [] x xs h = h.4
without (r ∷ row) x xs h = (h.0, h.1, h.2, past r.place row x xs h.3 h.4, without row x xs h.4)

place_alone : (p : ℕ) (row : List Word) (x z : Word) (xs : List Word) → z.place ≡ x.place → IsFurther p (row ++ x ∷ xs) → IsFurther p (row ++ z ∷ xs)
place_alone p [] x z xs e h = omega arith
place_alone p (r ∷ row) x z xs e h = h

replaced : (row : List Word) (x z : Word) (xs : List Word) → z.place ≡ x.place → 0 < z.bits → z.bits < 2 ^ 64 → AreAscending (row ++ x ∷ xs) → AreAscending (row ++ z ∷ xs)
replaced [] x z xs e some lt h = (some, lt, omega (arith, h.2), subst (λ p. IsFurther p xs) (sym e) h.3, h.4)
replaced (r ∷ row) x z xs e some lt h = (h.0, h.1, h.2, place_alone r.place row x z xs e h.3, replaced row x z xs e some lt h.4)

-- ---- the sum of two sets
pub record IsMerging (row xs ys : List Word) (all : ℕ) : Type 0 where
  pub sum : bit_xor (words_set row) (bit_xor (words_set xs) (words_set ys)) ≡ all
  pub left : AreAscending (row ++ xs)
  pub right : AreAscending (row ++ ys)

pub merging-turned : (row xs ys : List Word) (all : ℕ) → IsMerging row xs ys all → IsMerging row ys xs all
merging-turned row xs ys all h = record { sum = ap (bit_xor (words_set row)) (xor_comm (words_set ys) (words_set xs)) ∙ h.sum; left = h.right; right = h.left }

alone : (x : Word) → words_set (x ∷ []) ≡ x.bits * 2 ^ (64 * x.place)
alone x = xor_zero_r (x.bits * 2 ^ (64 * x.place))

pub merging-left : (row : List Word) (x : Word) (xs : List Word) (y : Word) (ys : List Word) (all : ℕ) → x.place < y.place → IsMerging row (x ∷ xs) (y ∷ ys) all → IsMerging (row ++ x ∷ []) xs (y ∷ ys) all
merging-left row x xs y ys all lt h = record {
  sum =
      (λ i. bit_xor (set-append row (x ∷ []) i) (bit_xor (words_set xs) Y))
      ∙ (λ i. bit_xor (bit_xor R (alone x i)) (bit_xor (words_set xs) Y))
      ∙ xor_assoc R X (bit_xor (words_set xs) Y)
      ∙ ap (bit_xor R) (sym (xor_assoc X (words_set xs) Y))
      ∙ h.sum;
  left = subst AreAscending (sym (append_assoc row (x ∷ []) xs)) h.left;
  right = subst AreAscending (sym (append_assoc row (x ∷ []) (y ∷ ys))) (inserted row x y xs ys h.left h.right lt);
}
  where
    R : ℕ
    R = words_set row

    X : ℕ
    X = x.bits * 2 ^ (64 * x.place)

    Y : ℕ
    Y = words_set (y ∷ ys)

-- four sums in another order
shuffled : (r x a y b : ℕ) → bit_xor (bit_xor r (bit_xor x y)) (bit_xor a b) ≡ bit_xor r (bit_xor (bit_xor x a) (bit_xor y b))
shuffled r x a y b =
    xor_assoc r (bit_xor x y) (bit_xor a b)
    ∙ ap (bit_xor r) (xor_assoc x y (bit_xor a b) ∙ ap (bit_xor x) (sym (xor_assoc y a b) ∙ ap (λ k. bit_xor k b) (xor_comm y a) ∙ xor_assoc a y b) ∙ sym (xor_assoc x a (bit_xor y b)))

pub merging-both : (row : List Word) (x : Word) (xs : List Word) (y : Word) (ys : List Word) (all : ℕ) → x.place ≡ y.place → bit_xor x.bits y.bits < 2 ^ 64 → IsMerging row (x ∷ xs) (y ∷ ys) all → IsMerging (row ++ word_sum x y) xs ys all
merging-both row x xs y ys all e small h = go (nat_eq (bit_xor x.bits y.bits) 0) refl
  where
    z : Word
    z = record { place = x.place; bits = bit_xor x.bits y.bits }

    X : ℕ
    X = x.bits * 2 ^ (64 * x.place)

    Y : ℕ
    Y = y.bits * 2 ^ (64 * y.place)

    both : bit_xor X Y ≡ z.bits * 2 ^ (64 * z.place)
    both = (λ i. bit_xor X (y.bits * 2 ^ (64 * sym e i))) ∙ at_one_place (64 * x.place) x.bits y.bits

    sum_by : (new : List Word) → words_set new ≡ bit_xor (words_set row) (bit_xor X Y) → bit_xor (words_set new) (bit_xor (words_set xs) (words_set ys)) ≡ all
    sum_by new f = ap (λ k. bit_xor k (bit_xor (words_set xs) (words_set ys))) f ∙ shuffled (words_set row) X (words_set xs) Y (words_set ys) ∙ h.sum

    none : nat_eq z.bits 0 ≡ true → z.bits ≡ 0
    none t = grind (arith, nat_tests)

    some : nat_eq z.bits 0 ≡ false → 0 < z.bits
    some t = grind (arith, nat_tests)

    empty : z.bits ≡ 0 → words_set (row ++ []) ≡ bit_xor (words_set row) (bit_xor X Y)
    empty n = ap words_set (append-nil row) ∙ sym (xor_zero_r (words_set row)) ∙ ap (bit_xor (words_set row)) (sym (both ∙ ap (λ k. k * 2 ^ (64 * z.place)) n ∙ zero_times (2 ^ (64 * z.place))))
      where
        zero_times : (k : ℕ) → 0 * k ≡ 0
        zero_times k = omega arith

    one : words_set (row ++ z ∷ []) ≡ bit_xor (words_set row) (bit_xor X Y)
    one = set-append row (z ∷ []) ∙ ap (bit_xor (words_set row)) (alone z ∙ sym both)

    go : (b : Bool) → nat_eq z.bits 0 ≡ b → IsMerging (row ++ cond b [] (z ∷ [])) xs ys all
    go true t = record {
      sum = sum_by (row ++ []) (empty (none t));
      left = subst (λ ws. AreAscending (ws ++ xs)) (sym (append-nil row)) (without row x xs h.left);
      right = subst (λ ws. AreAscending (ws ++ ys)) (sym (append-nil row)) (without row y ys h.right);
    }
    go false t = record {
      sum = sum_by (row ++ z ∷ []) one;
      left = subst AreAscending (sym (append_assoc row (z ∷ []) xs)) (replaced row x z xs refl (some t) small h.left);
      right = subst AreAscending (sym (append_assoc row (z ∷ []) ys)) (replaced row y z ys e (some t) small h.right);
    }

pub merging-end : (row ys : List Word) (all : ℕ) → IsMerging row [] ys all → (words_set (row ++ ys) ≡ all) × AreAscending (row ++ ys)
merging-end row ys all h = (set-append row ys ∙ ap (bit_xor (words_set row)) (sym (xor_zero_l (words_set ys))) ∙ h.sum, h.right)
