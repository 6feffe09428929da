-- Laws of the number that `distance` computes, and of the greatest distance.
--   cheapest-far         it is at most n * top
--   cheapest-walk        where it is less, a walk costs so much
--   cheapest-along       no walk of at most m pairs costs less
--   IsDiameter-greatest  the greatest entry of the table of all distances
use Rattle.std.proofs.Common.{◌≡◌, ℕ, zero, suc, ◌+◌, ◌*◌, ◌/◌, ◌%◌, ◌<◌, ◌≤◌, Bool, true, false, cond, List, [], ◌∷◌, length, get_or, refl, sym, ap, ◌∙◌, subst, arith, zero-add, ◌⊎◌, inl, inr}
use Rattle.std.specs.Prelude.{All, fold, max, min, ◌==◌}
use Rattle.std.specs.List.{range_with_len}
use Rattle.std.proofs.lemmas.List.FromFn.{get_or-range_with_len, length-range_with_len}
use Rattle.std.proofs.lemmas.Bool.Decides.{nat_tests}
use Rattle.std.proofs.lemmas.Bool.{cases_lt}
use Rattle.std.proofs.lemmas.Nat.{mul-add-lt, div-add-mod'}
use Rattle.std.proofs.Math.Nat.{mod-lt, div-lt_iff_lt-mul}
use Rattle.coupling_map.specs.Walks.{is_near, cheapest, walk_cost, IsWalk, IsDiameter, IsDistance}
use Rattle.coupling_map.specs.Tables.{AreDistances}
use Rattle.coupling_map.proofs.WalkLaws.{is_near-below, IsDistance-same}

-- ---- the least of some numbers

abbrev least : (ℕ → ℕ) → ℕ → List ℕ → ℕ
least f k xs = fold (λ k c. min k (f c)) k xs

least-start : (f : ℕ → ℕ) (k : ℕ) (xs : List ℕ) → least f k xs ≤ k
least-start f k [] = omega arith
least-start f k (x ∷ xs) = omega (arith, least-start f (min k (f x)) xs)

least-at : (f : ℕ → ℕ) (k : ℕ) (xs : List ℕ) (i : ℕ) → i < length xs → least f k xs ≤ f (get_or xs i 0)
least-at f k [] i l = absurd (omega arith)
least-at f k (x ∷ xs) zero l = omega (arith, least-start f (min k (f x)) xs)
least-at f k (x ∷ xs) (suc i) l = least-at f (min k (f x)) xs i (omega arith)

least-taken : (f : ℕ → ℕ) (k : ℕ) (xs : List ℕ) → (least f k xs ≡ k) ⊎ ((c : ℕ) × (least f k xs ≡ f c))
least-taken f k [] = inl refl
least-taken f k (x ∷ xs) = elim (least-taken f (min k (f x)) xs) [
  | inr g ↦ inr g
  | inl e ↦ elim (cases_lt k (f x)) [
    | inl l ↦ inl (omega (arith, e, l))
    | inr l ↦ inr (x, omega (arith, e, l))
  ]
]

-- ---- the least cost of a walk of so many pairs

at_most : (t : Bool) (f : ℕ) → cond t 0 f ≤ f
at_most true f = omega arith
at_most false f = omega arith

pub cheapest-far : (top n : ℕ) (es : List (ℕ × ℕ)) (w : ℕ → ℕ → ℕ) (m a b : ℕ) → cheapest top n es w m a b ≤ n * top
unfolding cheapest
cheapest-far top n es w zero a b = at_most (a == b) (n * top)
cheapest-far top n es w (suc m) a b =
    omega (arith, at_most (a == b) (n * top), least-start (λ c. cond (is_near es a c) (w a c + cheapest top n es w m c b) (n * top)) (cond (a == b) 0 (n * top)) (range_with_len 0 n))

same_qubit : (a b : ℕ) → (a == b) ≡ true → a ≡ b
same_qubit a b t = grind (arith, nat_tests)

module _ (top n : ℕ) (es : List (ℕ × ℕ)) (w : ℕ → ℕ → ℕ) where
  here-walk : (a b k : ℕ) → k ≡ cond (a == b) 0 (n * top) → k < n * top → (cs : List ℕ) × (walk_cost w a cs ≡ k) × IsWalk es a cs b
  here-walk a b k e l = go (a == b) refl e
    where
      go : (t : Bool) → (a == b) ≡ t → k ≡ cond t 0 (n * top) → (cs : List ℕ) × (walk_cost w a cs ≡ k) × IsWalk es a cs b
      go true t f = ([], sym f, same_qubit a b t)
      go false t f = absurd (omega (arith, f, l))

  pub cheapest-walk : (m a b : ℕ) → cheapest top n es w m a b < n * top → (cs : List ℕ) × (walk_cost w a cs ≡ cheapest top n es w m a b) × IsWalk es a cs b
  unfolding cheapest
  cheapest-walk zero a b l = here-walk a b (cond (a == b) 0 (n * top)) refl l
  cheapest-walk (suc m) a b l = elim (least-taken f (cond (a == b) 0 (n * top)) (range_with_len 0 n)) [
    | inl e ↦ here-walk a b (least f (cond (a == b) 0 (n * top)) (range_with_len 0 n)) e l
    | inr g ↦ go g.0 (is_near es a g.0) refl g.1 (cheapest-walk m g.0 b)
  ]
    where
      f : ℕ → ℕ
      f c = cond (is_near es a c) (w a c + cheapest top n es w m c b) (n * top)

      go : (c : ℕ) (t : Bool) → is_near es a c ≡ t → least f (cond (a == b) 0 (n * top)) (range_with_len 0 n) ≡ f c
          → (cheapest top n es w m c b < n * top → (cs : List ℕ) × (walk_cost w c cs ≡ cheapest top n es w m c b) × IsWalk es c cs b)
          → (cs : List ℕ) × (walk_cost w a cs ≡ least f (cond (a == b) 0 (n * top)) (range_with_len 0 n)) × IsWalk es a cs b
      go c false t e later = absurd (omega (arith, l, e ∙ (λ i. cond (t i) (w a c + cheapest top n es w m c b) (n * top))))
      go c true t e later =
          let z : least f (cond (a == b) 0 (n * top)) (range_with_len 0 n) ≡ w a c + cheapest top n es w m c b =
          e ∙ (λ i. cond (t i) (w a c + cheapest top n es w m c b) (n * top)) in
          let r = later (omega (arith, z, l)) in
          (c ∷ r.0, omega (arith, r.1, z), (t, r.2))

  pub cheapest-along : All (λ e. (e.0 < n) × (e.1 < n)) es → (m : ℕ) (cs : List ℕ) (a b : ℕ) → IsWalk es a cs b → length cs ≤ m → cheapest top n es w m a b ≤ walk_cost w a cs
  unfolding cheapest
  cheapest-along h zero [] a b g l = omega (arith, none a b g)
    where
      none : (a b : ℕ) → a ≡ b → ◌≡◌ {A = ℕ} (cond (a == b) 0 (n * top)) 0
      none a b e = grind (arith, nat_tests)
  cheapest-along h zero (c ∷ cs) a b g l = absurd (omega arith)
  cheapest-along h (suc m) [] a b g l =
      omega (arith, none a b g, least-start (λ c. cond (is_near es a c) (w a c + cheapest top n es w m c b) (n * top)) (cond (a == b) 0 (n * top)) (range_with_len 0 n))
    where
      none : (a b : ℕ) → a ≡ b → ◌≡◌ {A = ℕ} (cond (a == b) 0 (n * top)) 0
      none a b e = grind (arith, nat_tests)
  cheapest-along h (suc m) (c ∷ cs) a b g l =
      let f : ℕ → ℕ = λ x. cond (is_near es a x) (w a x + cheapest top n es w m x b) (n * top) in
      let lc = (is_near-below n es a c h g.0).1 in
      let at : get_or (range_with_len 0 n) c 0 ≡ c = get_or-range_with_len 0 n c 0 lc ∙ zero-add c in
      let here = least-at f (cond (a == b) 0 (n * top)) (range_with_len 0 n) c (omega (arith, lc, length-range_with_len 0 n)) in
      let value : f c ≡ w a c + cheapest top n es w m c b = λ i. cond (g.0 i) (w a c + cheapest top n es w m c b) (n * top) in
      omega (arith, here, ap f at, value, cheapest-along h m cs c b g.1 (omega (arith, l)))

-- ---- the diameter

start-fold : (m : ℕ) (xs : List ℕ) → m ≤ fold max m xs
start-fold m [] = omega arith
start-fold m (x ∷ xs) = omega (arith, start-fold (max m x) xs)

entry-fold : (m : ℕ) (xs : List ℕ) (k : ℕ) → k < length xs → get_or xs k 0 ≤ fold max m xs
entry-fold m [] k l = absurd (omega arith)
entry-fold m (x ∷ xs) zero l = omega (arith, start-fold (max m x) xs)
entry-fold m (x ∷ xs) (suc k) l = entry-fold (max m x) xs k (omega arith)

-- the greatest is an entry, or the number at the start
taken-fold : (m : ℕ) (xs : List ℕ) → (fold max m xs ≡ m) ⊎ ((k : ℕ) × (k < length xs) × (get_or xs k 0 ≡ fold max m xs))
taken-fold m [] = inl refl
taken-fold m (x ∷ xs) = elim (taken-fold (max m x) xs) [
  | inl e ↦ elim (cases_lt m x) [
    | inl l ↦ inr (0, omega arith, omega (arith, e))
    | inr l ↦ inl (omega (arith, e))
  ]
  | inr f ↦ inr (suc f.0, omega (arith, f.1), f.2)
]

pub IsDiameter-greatest : (n : ℕ) (es : List (ℕ × ℕ)) (w : ℕ → ℕ → ℕ) (table : List ℕ) → 0 < n → AreDistances n es w n table → IsDiameter n es w (fold max 0 table)
IsDiameter-greatest n es w table h t = record {
  reached = elim (taken-fold 0 table) [
    | inl e ↦ at 0 0 h h (omega (arith, entry-fold 0 table (0 * n + 0) (inside 0 0 h h), e))
    | inr f ↦ placed f.0 (omega (arith, f.1, t.long)) f.2
  ];
  most = λ a b j la lb d.
      let e : get_or table (b * n + a) 0 ≡ j = IsDistance-same es w a b _ j (t.exact a b la lb) d in
      omega (arith, e, entry-fold 0 table (b * n + a) (inside a b la lb));
}
  where
    inside : (a b : ℕ) → a < n → b < n → b * n + a < length table
    inside a b la lb = omega (arith, t.long, mul-add-lt b n a n lb la)

    at : (a b : ℕ) → a < n → b < n → get_or table (b * n + a) 0 ≡ fold max 0 table
        → (a : ℕ) × (b : ℕ) × (a < n) × (b < n) × IsDistance es w a b (fold max 0 table)
    at a b la lb e = (a, b, la, lb, subst (IsDistance es w a b) e (t.exact a b la lb))

    placed : (k : ℕ) → k < n * n → get_or table k 0 ≡ fold max 0 table
        → (a : ℕ) × (b : ℕ) × (a < n) × (b < n) × IsDistance es w a b (fold max 0 table)
    placed k l e =
        at (k % n) (k / n) (mod-lt k h) ((div-lt_iff_lt-mul h).1 l)
        (ap (λ m. get_or table m 0) (div-add-mod' k n) ∙ e)
