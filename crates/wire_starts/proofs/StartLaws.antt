-- A list of different qubits, and behind it those that are left.
--   completed-none, completed-in, completed-out   what one qubit more brings behind the list
--   IsPlacement-distinct     different numbers below n, all of them, are a placement
--   IsPlacement-completed    a list of different qubits is completed to a placement
--   length-completed, taken  its length, and that such a list is taken
--   completing               the laws of the loop, for `completed_list` of the code
use Rattle.std.proofs.Common.{◌≡◌, ℕ, zero, suc, ◌+◌, ◌<◌, ◌≤◌, Bool, true, false, ◌||◌, cond, List, [], ◌∷◌, ◌++◌, All, length, append-nil, refl, sym, ap, subst, ◌∙◌, arith, zero-add}
use Rattle.std.specs.Prelude.{IfNone, IsSome, Option, None, Some, filter, nat_eq, nat_lt, not, slice_index}
use Rattle.std.specs.List.{AllByRecursion, IsDistinct, list_any, range_with_len}
use Rattle.std.proofs.lemmas.Bool.Decides.{nat_tests}
use Rattle.std.proofs.Math.Nat.{add_assoc}
use Rattle.std.proofs.lemmas.List.{append_assoc, length-append}
use Rattle.std.proofs.lemmas.List.Elements.{filter-append, recursion_from_All}
use Rattle.std.proofs.lemmas.List.Folds.{list_any-append}
use Rattle.unitary_model.specs.Placement.{IsPlacement, identity, position_of}
use Rattle.wire_starts.specs.Starts.{completed}

abbrev pub is_in : List ℕ → ℕ → Bool
is_in list q = list_any (λ p. nat_eq p q) list

abbrev pub left_of : List ℕ → ℕ → List ℕ
left_of list n = filter (λ q. not (is_in list q)) (identity n)

same : (a b : ℕ) → nat_eq a b ≡ true → a ≡ b
same a b e = grind (arith, nat_tests)

itself : (a : ℕ) → nat_eq a a ≡ true
itself a = grind (arith, nat_tests)

other : (a b : ℕ) → a < b → nat_eq a b ≡ false
other a b lt = grind (arith, nat_tests)

-- ---- one qubit more
range-more : (a n : ℕ) → range_with_len a (suc n) ≡ range_with_len a n ++ (a + n) ∷ []
range-more a zero = ap (λ k. k ∷ []) (sym here)
  where
    here : a + 0 ≡ a
    here = omega arith
range-more a (suc n) = ap (λ r. a ∷ r) (range-more (a + 1) n ∙ ap (λ k. range_with_len (a + 1) n ++ k ∷ []) there)
  where
    there : (a + 1) + n ≡ a + suc n
    there = omega arith

left-more : (list : List ℕ) (n : ℕ) → left_of list (n + 1) ≡ left_of list n ++ cond (not (is_in list n)) (n ∷ []) []
left-more list n =
    ap (λ k. filter (λ q. not (is_in list q)) (range_with_len 0 k)) one
    ∙ ap (filter (λ q. not (is_in list q))) (range-more 0 n)
    ∙ filter-append (λ q. not (is_in list q)) (range_with_len 0 n) ((0 + n) ∷ [])
    ∙ ap (λ k. left_of list n ++ filter (λ q. not (is_in list q)) (k ∷ [])) (zero-add n)
  where
    one : n + 1 ≡ suc n
    one = omega arith

pub completed-none : (list : List ℕ) → list ≡ completed 0 list
completed-none list = sym (append-nil list)

pub completed-in : (list : List ℕ) (n : ℕ) → is_in list n ≡ true → completed (n + 1) list ≡ completed n list
completed-in list n e =
    ap (λ r. list ++ r) (left-more list n ∙ ap (λ b. left_of list n ++ cond (not b) (n ∷ []) []) e ∙ append-nil (left_of list n))

pub completed-out : (list : List ℕ) (n : ℕ) → is_in list n ≡ false → completed (n + 1) list ≡ completed n list ++ n ∷ []
completed-out list n e =
    ap (λ r. list ++ r) (left-more list n ∙ ap (λ b. left_of list n ++ cond (not b) (n ∷ []) []) e) ∙ sym (append_assoc list (left_of list n) (n ∷ []))

pub ruleset completing = (completed-none, completed-in, completed-out)

-- ---- different numbers
found-step : (x : ℕ) (p : List ℕ) (j : ℕ) → (is_in p j ≡ true → position_of j p < length p) → (b : Bool) → nat_eq x j ≡ b
    → (nat_eq x j || is_in p j) ≡ true → cond (nat_eq x j) 0 (suc (position_of j p)) < suc (length p)
found-step x p j more true is e = subst (λ c. cond c 0 (suc (position_of j p)) < suc (length p)) (sym is) (omega arith)
found-step x p j more false is e =
    let rest = more (ap (λ c. c || is_in p j) (sym is) ∙ e) in
    subst (λ c. cond c 0 (suc (position_of j p)) < suc (length p)) (sym is) (omega (arith, rest))

position-found : (p : List ℕ) (j : ℕ) → is_in p j ≡ true → position_of j p < length p
position-found [] j e = cc
position-found (x ∷ p) j e = found-step x p j (position-found p j) (nat_eq x j) refl e

there-step : (x : ℕ) (p : List ℕ) (j : ℕ) → (is_in p j ≡ true → slice_index p (position_of j p) ≡ j) → (b : Bool) → nat_eq x j ≡ b
    → (nat_eq x j || is_in p j) ≡ true → slice_index (x ∷ p) (cond (nat_eq x j) 0 (suc (position_of j p))) ≡ j
there-step x p j more true is e = ap (λ c. slice_index (x ∷ p) (cond c 0 (suc (position_of j p)))) is ∙ same x j is
there-step x p j more false is e =
    ap (λ c. slice_index (x ∷ p) (cond c 0 (suc (position_of j p)))) is ∙ more (ap (λ c. c || is_in p j) (sym is) ∙ e)

position-there : (p : List ℕ) (j : ℕ) → is_in p j ≡ true → slice_index p (position_of j p) ≡ j
position-there [] j e = cc
position-there (x ∷ p) j e = there-step x p j (position-there p j) (nat_eq x j) refl e

all-at : (P : ℕ → Type 0) (p : List ℕ) (i : ℕ) → AllByRecursion P p → i < length p → P (slice_index p i)
all-at P [] i all lt = absurd (omega arith)
all-at P (x ∷ p) zero all lt = all.0
all-at P (x ∷ p) (suc i) all lt = all-at P p i all.1 (omega (arith, lt))

position-once : (p : List ℕ) (i : ℕ) → IsDistinct nat_eq p → i < length p → position_of (slice_index p i) p ≡ i
unfolding IsDistinct
position-once [] i d lt = absurd (omega arith)
position-once (x ∷ p) zero d lt = ap (λ c. cond c 0 (suc (position_of x p))) (itself x)
position-once (x ∷ p) (suc i) d lt =
    ap (λ c. cond c 0 (suc (position_of (slice_index p i) p))) (all-at (λ y. nat_eq x y ≡ false) p i d.0 (omega (arith, lt)))
    ∙ ap (λ k. suc k) (position-once p i d.1 (omega (arith, lt)))

pub IsPlacement-distinct : (n : ℕ) (p : List ℕ) → length p ≡ n → IsDistinct nat_eq p → AllByRecursion (λ q. q < n) p
    → ((j : ℕ) → j < n → is_in p j ≡ true) → IsPlacement n p
IsPlacement-distinct n p long d below all = record {
  long = long;
  within = λ i lt. all-at (λ q. q < n) p i below (omega (arith, lt, long));
  once = λ i lt. position-once p i d (omega (arith, lt, long));
  each = λ j lt. let k = position-found p j (all j lt) in omega (arith, k, long);
  there = λ j lt. position-there p j (all j lt);
}

-- ---- the completed list
all-joined : (P : ℕ → Type 0) (xs ys : List ℕ) → AllByRecursion P xs → AllByRecursion P ys → AllByRecursion P (xs ++ ys)
all-joined P [] ys a b = b
all-joined P (x ∷ xs) ys a b = (a.0, all-joined P xs ys a.1 b)

neither : (a b : Bool) → (a || b) ≡ false → (a ≡ false) × (b ≡ false)
neither true b e = cc
neither false b e = (refl, e)

first-apart : (x : ℕ) (xs zs : List ℕ) → AllByRecursion (λ y. (nat_eq x y || is_in xs y) ≡ false) zs → AllByRecursion (λ y. nat_eq x y ≡ false) zs
first-apart x xs [] a = tt
first-apart x xs (z ∷ zs) a = ((neither (nat_eq x z) (is_in xs z) a.0).0, first-apart x xs zs a.1)

others-apart : (x : ℕ) (xs zs : List ℕ) → AllByRecursion (λ y. (nat_eq x y || is_in xs y) ≡ false) zs → AllByRecursion (λ y. is_in xs y ≡ false) zs
others-apart x xs [] a = tt
others-apart x xs (z ∷ zs) a = ((neither (nat_eq x z) (is_in xs z) a.0).1, others-apart x xs zs a.1)

distinct-joined : (xs ys : List ℕ) → IsDistinct nat_eq xs → IsDistinct nat_eq ys → AllByRecursion (λ y. is_in xs y ≡ false) ys → IsDistinct nat_eq (xs ++ ys)
unfolding IsDistinct
distinct-joined [] ys d e apart = e
distinct-joined (x ∷ xs) ys d e apart = (
  all-joined (λ y. nat_eq x y ≡ false) xs ys d.0 (first-apart x xs ys apart),
  distinct-joined xs ys d.1 e (others-apart x xs ys apart),
)

-- what is left of all numbers has what is asked of all that pass
all-kept : (P : ℕ → Type 0) (a : ℕ) (rest : List ℕ) (b c : Bool) → c ≡ b → (b ≡ true → P a) → AllByRecursion P rest
    → AllByRecursion P (cond c (a ∷ rest) rest)
all-kept P a rest true c is h more = subst (λ k. AllByRecursion P (cond k (a ∷ rest) rest)) (sym is) (h refl, more)
all-kept P a rest false c is h more = subst (λ k. AllByRecursion P (cond k (a ∷ rest) rest)) (sym is) more

all-left : (P : ℕ → Type 0) (f : ℕ → Bool) (a n : ℕ) → ((q : ℕ) → a ≤ q → q < a + n → f q ≡ true → P q) → AllByRecursion P (filter f (range_with_len a n))
all-left P f a zero h = tt
all-left P f a (suc n) h =
    all-kept P a (filter f (range_with_len (a + 1) n)) (f a) (f a) refl (h a (omega arith) (omega arith))
    (all-left P f (a + 1) n (λ q low high e. h q (omega (arith, low)) (omega (arith, high)) e))

distinct-kept : (a : ℕ) (rest : List ℕ) (b c : Bool) → c ≡ b → AllByRecursion (λ y. nat_eq a y ≡ false) rest → IsDistinct nat_eq rest
    → IsDistinct nat_eq (cond c (a ∷ rest) rest)
unfolding IsDistinct
distinct-kept a rest true c is apart more = subst (λ k. IsDistinct nat_eq (cond k (a ∷ rest) rest)) (sym is) (apart, more)
distinct-kept a rest false c is apart more = subst (λ k. IsDistinct nat_eq (cond k (a ∷ rest) rest)) (sym is) more

distinct-left : (f : ℕ → Bool) (a n : ℕ) → IsDistinct nat_eq (filter f (range_with_len a n))
unfolding IsDistinct
distinct-left f a zero = tt
distinct-left f a (suc n) =
    distinct-kept a (filter f (range_with_len (a + 1) n)) (f a) (f a) refl
    (all-left (λ y. nat_eq a y ≡ false) f (a + 1) n (λ q low high e. other a q (omega (arith, low)))) (distinct-left f (a + 1) n)

-- a number that passes is left
no_more : (a j : ℕ) → nat_eq a j ≡ false → a ≡ j → ⊥
no_more a j is at = let t = itself a in let u : nat_eq a j ≡ true = ap (nat_eq a) (sym at) ∙ t in cc

found-kept : (f : ℕ → Bool) (a j : ℕ) (rest : List ℕ) (b c : Bool) → f a ≡ b → nat_eq a j ≡ c → f j ≡ true → ((a ≡ j → ⊥) → is_in rest j ≡ true)
    → is_in (cond (f a) (a ∷ rest) rest) j ≡ true
found-kept f a j rest true true is at e more =
    ap (λ k. is_in (cond k (a ∷ rest) rest) j) is ∙ ap (λ k. k || is_in rest j) at
found-kept f a j rest true false is at e more =
    ap (λ k. is_in (cond k (a ∷ rest) rest) j) is ∙ ap (λ k. k || is_in rest j) at ∙ more (no_more a j at)
found-kept f a j rest false true is at e more = let here : f a ≡ true = ap f (same a j at) ∙ e in cc
found-kept f a j rest false false is at e more = ap (λ k. is_in (cond k (a ∷ rest) rest) j) is ∙ more (no_more a j at)

above : (a j : ℕ) → a ≤ j → (a ≡ j → ⊥) → a + 1 ≤ j
above a j low apart = grind arith

found-left : (f : ℕ → Bool) (a n j : ℕ) → a ≤ j → j < a + n → f j ≡ true → is_in (filter f (range_with_len a n)) j ≡ true
found-left f a zero j low high e = absurd (omega (arith, low, high))
found-left f a (suc n) j low high e =
    found-kept f a j (filter f (range_with_len (a + 1) n)) (f a) (nat_eq a j) refl refl e
    (λ apart. found-left f (a + 1) n j (above a j low apart) (omega (arith, high)) e)

-- ---- how many are left
-- how many numbers of a list are below n
abbrev few : ℕ → List ℕ → ℕ
few n [] = 0
few n (x ∷ list) = cond (nat_lt x n) 1 0 + few n list

few-zero : (list : List ℕ) → few 0 list ≡ 0
few-zero [] = refl
few-zero (x ∷ list) = ap (λ b. cond b 1 0 + few 0 list) not_below ∙ zero-add (few 0 list) ∙ few-zero list
  where
    not_below : nat_lt x 0 ≡ false
    not_below = grind (arith, nat_tests)

few-all : (n : ℕ) (list : List ℕ) → AllByRecursion (λ q. q < n) list → few n list ≡ length list
few-all n [] all = refl
few-all n (x ∷ list) all =
    let more = few-all n list all.1 in
    ap (λ b. cond b 1 0 + few n list) (below x all.0) ∙ one (few n list) (length list) more
  where
    below : (y : ℕ) → y < n → nat_lt y n ≡ true
    below y lt = grind (arith, nat_tests)

    one : (a b : ℕ) → a ≡ b → 1 + a ≡ suc b
    one a b e = omega (arith, e)

absent : (x : ℕ) (list : List ℕ) → AllByRecursion (λ y. nat_eq x y ≡ false) list → is_in list x ≡ false
absent x [] all = refl
absent x (y ∷ list) all = ap (λ b. b || is_in list x) (turned x y all.0) ∙ absent x list all.1
  where
    turned : (a b : ℕ) → nat_eq a b ≡ false → nat_eq b a ≡ false
    turned a b e = grind (arith, nat_tests)

lt-next : (a b : ℕ) → nat_eq a b ≡ false → nat_lt a (b + 1) ≡ nat_lt a b
lt-next a b e = grind (arith, nat_tests)

lt-own : (n : ℕ) → nat_lt n (n + 1) ≡ true
lt-own n = grind (arith, nat_tests)

lt-not : (n : ℕ) → nat_lt n n ≡ false
lt-not n = grind (arith, nat_tests)

few-step : (n x : ℕ) (list : List ℕ) → AllByRecursion (λ y. nat_eq x y ≡ false) list → few (n + 1) list ≡ few n list + cond (is_in list n) 1 0 → (b : Bool)
    → nat_eq x n ≡ b → cond (nat_lt x (n + 1)) 1 0 + few (n + 1) list ≡ (cond (nat_lt x n) 1 0 + few n list) + cond (nat_eq x n || is_in list n) 1 0
few-step n x list apart next true is =
    let at : x ≡ n = same x n is in
    let here : nat_lt x (n + 1) ≡ true = ap (λ k. nat_lt k (n + 1)) at ∙ lt-own n in
    let there : nat_lt x n ≡ false = ap (λ k. nat_lt k n) at ∙ lt-not n in
    let none : is_in list n ≡ false = subst (λ k. is_in list k ≡ false) at (absent x list apart) in
    let rest : few (n + 1) list ≡ few n list + 0 = next ∙ ap (λ b. few n list + cond b 1 0) none in
    ap (λ b. cond b 1 0 + few (n + 1) list) here ∙ turned (few (n + 1) list) (few n list) rest
    ∙ ap (λ b. (cond b 1 0 + few n list) + 1) (sym there)
    ∙ ap (λ b. (cond (nat_lt x n) 1 0 + few n list) + cond (b || is_in list n) 1 0) (sym is)
  where
    turned : (a b : ℕ) → a ≡ b + 0 → 1 + a ≡ (0 + b) + 1
    turned a b e = omega (arith, e)
few-step n x list apart next false is =
    ap (λ b. cond b 1 0 + few (n + 1) list) (lt-next x n is)
    ∙ ap (λ k. cond (nat_lt x n) 1 0 + k) next
    ∙ sym (add_assoc (cond (nat_lt x n) 1 0) (few n list) (cond (is_in list n) 1 0))
    ∙ ap (λ b. (cond (nat_lt x n) 1 0 + few n list) + cond (b || is_in list n) 1 0) (sym is)

few-more : (n : ℕ) (list : List ℕ) → IsDistinct nat_eq list → few (n + 1) list ≡ few n list + cond (is_in list n) 1 0
unfolding IsDistinct
few-more n [] d = refl
few-more n (x ∷ list) d = few-step n x list d.0 (few-more n list d.1) (nat_eq x n) refl

left-step : (list : List ℕ) (n : ℕ) → IsDistinct nat_eq list → length (left_of list n) + few n list ≡ n → (b : Bool) → is_in list n ≡ b
    → length (left_of list (n + 1)) + few (n + 1) list ≡ n + 1
left-step list n d before true is =
    let kept : length (left_of list (n + 1)) ≡ length (left_of list n) =
    ap length (left-more list n ∙ ap (λ b. left_of list n ++ cond (not b) (n ∷ []) []) is ∙ append-nil (left_of list n)) in
    let more : few (n + 1) list ≡ few n list + 1 = few-more n list d ∙ ap (λ b. few n list + cond b 1 0) is in
    omega (arith, kept, more, before)
left-step list n d before false is =
    let longer : length (left_of list (n + 1)) ≡ length (left_of list n) + 1 =
    ap length (left-more list n ∙ ap (λ b. left_of list n ++ cond (not b) (n ∷ []) []) is) ∙ length-append (left_of list n) (n ∷ []) in
    let more : few (n + 1) list ≡ few n list + 0 = few-more n list d ∙ ap (λ b. few n list + cond b 1 0) is in
    omega (arith, longer, more, before)

length-left : (list : List ℕ) (n : ℕ) → IsDistinct nat_eq list → length (left_of list n) + few n list ≡ n
length-left list zero d = zero-add (few 0 list) ∙ few-zero list
length-left list (suc n) d =
    subst (λ k. length (left_of list k) + few k list ≡ k) next (left-step list n d (length-left list n d) (is_in list n) refl)
  where
    next : n + 1 ≡ suc n
    next = omega arith

pub IsPlacement-completed : (n : ℕ) (list : List ℕ) → IsDistinct nat_eq list → All (λ q. q < n) list → IsPlacement n (completed n list)
IsPlacement-completed n list d all =
    let f : ℕ → Bool = λ q. not (is_in list q) in
    let within : AllByRecursion (λ q. q < n) list = recursion_from_All (λ q. q < n) list all in
    let left = length-left list n d in
    let whole = few-all n list within in
    let long : length (completed n list) ≡ n = length-append list (left_of list n) ∙ omega (arith, left, whole) in
    IsPlacement-distinct n (completed n list) long
    (distinct-joined list (left_of list n) d (distinct-left f 0 n) (all-left (λ y. is_in list y ≡ false) f 0 n (λ q low high e. out (is_in list q) e)))
    (all-joined (λ q. q < n) list (left_of list n) within (all-left (λ q. q < n) f 0 n (λ q low high e. omega (arith, high))))
    (λ j lt. there j lt (is_in list j) refl)
  where
    out : (b : Bool) → not b ≡ true → b ≡ false
    out true e = cc
    out false e = refl

    any_true : (a : Bool) → (a || true) ≡ true
    any_true true = refl
    any_true false = refl

    there : (j : ℕ) → j < n → (b : Bool) → is_in list j ≡ b → is_in (completed n list) j ≡ true
    there j lt true is = list_any-append (λ p. nat_eq p j) list (left_of list n) ∙ ap (λ b. b || is_in (left_of list n) j) is
    there j lt false is = list_any-append (λ p. nat_eq p j) list (left_of list n)
        ∙ ap (λ b. is_in list j || b) (found-left (λ q. not (is_in list q)) 0 n j (omega arith) (omega (arith, lt)) (ap not is))
        ∙ any_true (is_in list j)

pub length-completed : (n : ℕ) (list : List ℕ) → IsDistinct nat_eq list → All (λ q. q < n) list → length (completed n list) ≡ n
length-completed n list d all = (IsPlacement-completed n list d all).long

-- a list that is a placement is taken as one
pub taken : (o : Option (List ℕ)) (list : List ℕ) → IfNone o (IsPlacement (length list) list → ⊥) → IsPlacement (length list) list → IsSome o
taken None list never is = absurd (never is)
taken (Some p) list never is = refl
