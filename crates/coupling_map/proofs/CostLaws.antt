-- Laws of costs, and of their table.
--   cost-positive, -limited, -symmetric     the costs of a device
--   IsPriced-none, -more     the table of no edge, and of one more
--   listed-near, priced-near     near pairs have their cost
use Rattle.std.proofs.Common.{◌≡◌, ℕ, zero, suc, ◌+◌, ◌*◌, ◌<◌, ◌≤◌, Bool, true, false, cond, List, [], ◌∷◌, ◌++◌, Option, Some, None, length, get_or, take, set, replicate, refl, sym, ap, ◌∙◌, subst, arith, ◌⊎◌, inl, inr}
use Rattle.std.specs.Prelude.{All, IsTrue, fold, min, ◌==◌, ◌&&◌, ◌||◌, if◌then◌else◌}
use Rattle.std.specs.List.{list_any}
use Rattle.std.proofs.lemmas.Bool.{cases_eq}
use Rattle.std.proofs.lemmas.Nat.{mul-add-lt, same_from_place}
use Rattle.std.proofs.lemmas.List.{length-set, length-replicate, get_or-replicate, get_or-set_same, get_or-set_other}
use Rattle.coupling_map.specs.Walks.{is_edge, is_near}
use Rattle.coupling_map.specs.CostTables.{IsPriced}
use Rattle.coupling_map.specs.declared.edge_costs.EdgeCosts.{EdgeCosts}
use Rattle.coupling_map.specs.declared.edge_costs.EdgeCosts.TheVariants.{Unit, Listed}
use Rattle.coupling_map.specs.Tables.{ArePriced, HasCost, kept_price, listed_costs}
use Rattle.coupling_map.proofs.WalkLaws.{is_near-below}
use Rattle.coupling_map.proofs.Limits.{cost_small}
use Rattle.std.proofs.lemmas.Bool.Decides.{nat_tests}
use Rattle.std.proofs.lemmas.List.Elements.{All-head, All-tail, All-take}
use Rattle.coupling_map.specs.Costs.{most_cost, joins, pair_costs, cost_of, AreCosts, AreListed}
use Rattle.coupling_map.specs.Coupling.{Coupling, cost, IsCoupling}
use Rattle.coupling_map.proofs.Limits.{one_positive, one_limited}

abbrev IsCost : ℕ → Type 0
IsCost c = (1 ≤ c) × (c ≤ most_cost)

-- ---- the least of the costs of a pair
least-limited : (k : ℕ) (xs : List ℕ) → fold min k xs ≤ k
least-limited k [] = omega arith
least-limited k (x ∷ xs) = omega (arith, least-limited (min k x) xs)

least-positive : (es : List (ℕ × ℕ)) (cs : List ℕ) (a b k : ℕ) → All IsCost cs → 1 ≤ k → 1 ≤ fold min k (pair_costs es cs a b)
unfolding pair_costs
least-positive [] cs a b k h l = l
least-positive (e ∷ es) [] a b k h l = l
least-positive (e ∷ es) (c ∷ cs) a b k h l = go (joins e a b) (λ m g. least-positive es cs a b m (All-tail IsCost c cs h) g)
  where
    go : (t : Bool) → ((m : ℕ) → 1 ≤ m → 1 ≤ fold min m (pair_costs es cs a b)) → 1 ≤ fold min k (cond t (c ∷ pair_costs es cs a b) (pair_costs es cs a b))
    go true later = let first : IsCost c = All-head IsCost c cs h in later (min k c) (omega (arith, l, first.0))
    go false later = later k l

or_comm : (p q : Bool) → (p || q) ≡ (q || p)
or_comm true true = refl
or_comm true false = refl
or_comm false true = refl
or_comm false false = refl

joins-turned : (e : ℕ × ℕ) (a b : ℕ) → joins e a b ≡ joins e b a
joins-turned e a b = or_comm (e.0 == a && e.1 == b) (e.0 == b && e.1 == a)

costs-turned : (es : List (ℕ × ℕ)) (cs : List ℕ) (a b : ℕ) → pair_costs es cs a b ≡ pair_costs es cs b a
unfolding pair_costs
costs-turned [] cs a b = refl
costs-turned (e ∷ es) [] a b = refl
costs-turned (e ∷ es) (c ∷ cs) a b = λ i. cond (joins-turned e a b i) (c ∷ costs-turned es cs a b i) (costs-turned es cs a b i)

by_listing : (es : List (ℕ × ℕ)) (o : Option (List ℕ)) → AreCosts es o → (a b : ℕ) → IsCost (cost_of es o a b)
by_listing es None h a b = (one_positive, one_limited)
by_listing es (Some cs) h a b = (least-positive es cs a b most_cost h.each one_limited, least-limited most_cost (pair_costs es cs a b))

turned_by : (es : List (ℕ × ℕ)) (o : Option (List ℕ)) (a b : ℕ) → cost_of es o a b ≡ cost_of es o b a
turned_by es None a b = refl
turned_by es (Some cs) a b = ap (fold min most_cost) (costs-turned es cs a b)

pub cost-positive : (d : Coupling) → IsCoupling d → (a b : ℕ) → 1 ≤ cost d a b
cost-positive d h a b = (by_listing d.edges d.costs h.costs a b).0

pub cost-limited : (d : Coupling) → IsCoupling d → (a b : ℕ) → cost d a b ≤ most_cost
cost-limited d h a b = (by_listing d.edges d.costs h.costs a b).1

pub cost-symmetric : (d : Coupling) (a b : ℕ) → cost d a b ≡ cost d b a
cost-symmetric d a b = turned_by d.edges d.costs a b

-- ---- the table of no edge, and of one more
module _ (e : ℕ × ℕ) (a b : ℕ) where
  four : (p q r s : Bool) → ((p || q) || (r || s)) ≡ ((q || s) || (p || r))
  four true true r s = refl
  four true false true true = refl
  four true false true false = refl
  four true false false true = refl
  four true false false false = refl
  four false true true s = refl
  four false true false s = refl
  four false false true true = refl
  four false false true false = refl
  four false false false true = refl
  four false false false false = refl

  near-cons : (es : List (ℕ × ℕ)) → is_near (e ∷ es) a b ≡ (is_near es a b || joins e a b)
  unfolding is_near is_edge
  near-cons es = four (e.0 == a && e.1 == b) (list_any (λ (f : ℕ × ℕ). f.0 == a && f.1 == b) es) (e.0 == b && e.1 == a) (list_any (λ (f : ℕ × ℕ). f.0 == b && f.1 == a) es)

either : (p q : Bool) → (p || q) ≡ false → (p ≡ false) × (q ≡ false)
either true q h = absurd (cc)
either false q h = (refl, h)

costs-none : (es : List (ℕ × ℕ)) (cs : List ℕ) (a b : ℕ) → is_near es a b ≡ false → pair_costs es cs a b ≡ []
unfolding pair_costs
costs-none [] cs a b h = refl
costs-none (e ∷ es) [] a b h = refl
costs-none (e ∷ es) (c ∷ cs) a b h =
    let s = either (is_near es a b) (joins e a b) (sym (near-cons e a b es) ∙ h) in
    (λ i. cond (s.1 i) (c ∷ pair_costs es cs a b) (pair_costs es cs a b)) ∙ costs-none es cs a b s.0

or_assoc : (p q r : Bool) → ((p || q) || r) ≡ (p || (q || r))
or_assoc true q r = refl
or_assoc false q r = refl

near-more : (es : List (ℕ × ℕ)) (i a b : ℕ) → i < length es → is_near (take (suc i) es) a b ≡ (is_near (take i es) a b || joins (get_or es i (0, 0)) a b)
near-more [] i a b l = absurd (omega arith)
near-more (e ∷ es) zero a b l = near-cons e a b []
near-more (e ∷ es) (suc i) a b l =
    near-cons e a b (take (suc i) es)
    ∙ ap (λ (t : Bool). t || joins e a b) (near-more es i a b (omega arith))
    ∙ or_assoc (is_near (take i es) a b) (joins (get_or es i (0, 0)) a b) (joins e a b)
    ∙ ap (λ (t : Bool). is_near (take i es) a b || t) (or_comm (joins (get_or es i (0, 0)) a b) (joins e a b))
    ∙ sym (or_assoc (is_near (take i es) a b) (joins e a b) (joins (get_or es i (0, 0)) a b))
    ∙ ap (λ (t : Bool). t || joins (get_or es i (0, 0)) a b) (sym (near-cons e a b (take i es)))

abbrev one_cost : Bool → ℕ → List ℕ
one_cost true c = c ∷ []
one_cost false c = []

costs-more : (es : List (ℕ × ℕ)) (cs : List ℕ) (i a b : ℕ) → i < length es → length cs ≡ length es
    → pair_costs (take (suc i) es) (take (suc i) cs) a b ≡ pair_costs (take i es) (take i cs) a b ++ one_cost (joins (get_or es i (0, 0)) a b) (get_or cs i 0)
unfolding pair_costs
costs-more [] cs i a b l e = absurd (omega arith)
costs-more (e ∷ es) [] i a b l h = absurd (omega arith)
costs-more (e ∷ es) (c ∷ cs) zero a b l h = go (joins e a b)
  where
    go : (t : Bool) → cond t (c ∷ []) [] ≡ one_cost t c
    go true = refl
    go false = refl
costs-more (e ∷ es) (c ∷ cs) (suc i) a b l h = go (joins e a b) (costs-more es cs i a b (omega arith) (omega (arith, h)))
  where
    front : List ℕ
    front = pair_costs (take i es) (take i cs) a b

    back : List ℕ
    back = one_cost (joins (get_or es i (0, 0)) a b) (get_or cs i 0)

    go : (t : Bool) → pair_costs (take (suc i) es) (take (suc i) cs) a b ≡ front ++ back
        → cond t (c ∷ pair_costs (take (suc i) es) (take (suc i) cs) a b) (pair_costs (take (suc i) es) (take (suc i) cs) a b) ≡ cond t (c ∷ front) front ++ back
    go true g = ap (λ xs. c ∷ xs) g
    go false g = g

least-append : (k : ℕ) (xs ys : List ℕ) → fold min k (xs ++ ys) ≡ fold min (fold min k xs) ys
least-append k [] ys = refl
least-append k (x ∷ xs) ys = least-append (min k x) xs ys

pub IsPriced-none : (n : ℕ) (es : List (ℕ × ℕ)) (cs : List ℕ) → IsPriced (take 0 es) (take 0 cs) (record { size = n; table = replicate (n * n) 0 })
unfolding is_near is_edge
IsPriced-none n es cs = record {
  long = length-replicate (n * n) 0;
  says = λ a b la lb. get_or-replicate (n * n) (a * n + b) 0 0 (mul-add-lt a n b n la lb);
}

-- the lesser of what the table has and one cost more
lesser-with : (near : Bool) (least c old : ℕ) → old ≡ (if near then least else 0) → (near ≡ true → 1 ≤ least) → (near ≡ false → least ≡ most_cost) → c ≤ most_cost
    → (if old == 0 then c else min old c) ≡ min least c
lesser-with true least c old e some none small =
    let lo = some refl in
    (λ i. if off i then c else min (e i) c)
  where
    off : (old == 0) ≡ false
    off = let lo = some refl in grind (arith, nat_tests)
lesser-with false least c old e some none small =
    let f = none refl in
    let g : min least c ≡ c = omega (arith, f, small) in
    (λ i. if on i then c else min old c) ∙ sym g
  where
    on : (old == 0) ≡ true
    on = grind (arith, nat_tests)

joined_ends : (e : ℕ × ℕ) (a b : ℕ) → joins e a b ≡ true → ((e.0 ≡ a) × (e.1 ≡ b)) ⊎ ((e.0 ≡ b) × (e.1 ≡ a))
joined_ends e a b t = elim (or_cases (e.0 == a && e.1 == b) (e.0 == b && e.1 == a) t) [
  | inl here ↦ inl (both_equal e.0 e.1 a b here)
  | inr back ↦ inr (both_equal e.0 e.1 b a back)
]
  where
    or_cases : (p q : Bool) → (p || q) ≡ true → (p ≡ true) ⊎ (q ≡ true)
    or_cases true q h = inl refl
    or_cases false q h = inr h

    both_equal : (x y a b : ℕ) → (x == a && y == b) ≡ true → (x ≡ a) × (y ≡ b)
    both_equal x y a b h = (grind (arith, nat_tests), grind (arith, nat_tests))

apart_ends : (e : ℕ × ℕ) (a b : ℕ) → joins e a b ≡ false → ((e.0 ≡ a) × (e.1 ≡ b) → ⊥) × ((e.0 ≡ b) × (e.1 ≡ a) → ⊥)
apart_ends e a b t =
    let s = either (e.0 == a && e.1 == b) (e.0 == b && e.1 == a) t in
    (λ h. differ e.0 e.1 a b s.0 h.0 h.1, λ h. differ e.0 e.1 b a s.1 h.0 h.1)
  where
    differ : (x y a b : ℕ) → (x == a && y == b) ≡ false → x ≡ a → y ≡ b → ⊥
    differ x y a b t p q = grind (arith, nat_tests)

abbrev front_cost : List (ℕ × ℕ) → List ℕ → ℕ → ℕ → ℕ → ℕ
front_cost es cs i a b = fold min most_cost (pair_costs (take i es) (take i cs) a b)

abbrev pub lessened : ℕ → ℕ → ℕ
lessened old c = if old == 0 then c else min old c

-- the table with one edge more
abbrev pub with_edge : ℕ → List ℕ → ℕ × ℕ → ℕ → List ℕ
with_edge n table e v = set (set table (e.0 * n + e.1) v) (e.1 * n + e.0) v

front-turned : (es : List (ℕ × ℕ)) (cs : List ℕ) (i a b : ℕ) → front_cost es cs i a b ≡ front_cost es cs i b a
front-turned es cs i a b = ap (fold min most_cost) (costs-turned (take i es) (take i cs) a b)

is_near-turned : (es : List (ℕ × ℕ)) (a b : ℕ) → is_near es a b ≡ is_near es b a
unfolding is_near
is_near-turned es a b = or_comm (is_edge es a b) (is_edge es b a)

lessened-is : (es : List (ℕ × ℕ)) (cs : List ℕ) (i a b old c : ℕ) → AreListed es cs → c ≤ most_cost
    → old ≡ (if is_near (take i es) a b then front_cost es cs i a b else 0) → lessened old c ≡ min (front_cost es cs i a b) c
lessened-is es cs i a b old c listing small e =
    lesser-with (is_near (take i es) a b) (front_cost es cs i a b) c old e
    (λ t. least-positive (take i es) (take i cs) a b most_cost (All-take IsCost i cs listing.each) one_limited)
    (λ t. ap (fold min most_cost) (costs-none (take i es) (take i cs) a b t)) small

pub IsPriced-more : (n : ℕ) (es : List (ℕ × ℕ)) (cs : List ℕ) (i : ℕ) (e : ℕ × ℕ) (c v : ℕ) (table : List ℕ) → i < length es → AreListed es cs → e ≡ get_or es i (0, 0) → c ≡ get_or cs i 0
    → e.0 < n → e.1 < n → v ≡ lessened (get_or table (e.0 * n + e.1) 0) c → IsPriced (take i es) (take i cs) (record { size = n; table = table })
    → IsPriced (take (suc i) es) (take (suc i) cs) (record { size = n; table = with_edge n table e v })
IsPriced-more n es cs i e c v table l listing ee ec h0 h1 ev p = record {
  long = length-set (set table (e.0 * n + e.1) v) (e.1 * n + e.0) v ∙ length-set table (e.0 * n + e.1) v ∙ p.long;
  says = λ a b la lb. at a b la lb (joins e a b) refl ∙ sym (right a b);
}
  where
    small : c ≤ most_cost
    small = omega (arith, ec, (listing.each i 0 (omega (arith, l, listing.long))).1)

    place : e.0 * n + e.1 < length table
    place = subst (λ m. e.0 * n + e.1 < m) (sym p.long) (mul-add-lt e.0 n e.1 n h0 h1)

    back : e.1 * n + e.0 < length (set table (e.0 * n + e.1) v)
    back = subst (λ m. e.1 * n + e.0 < m) (sym (length-set table (e.0 * n + e.1) v ∙ p.long)) (mul-add-lt e.1 n e.0 n h1 h0)

    right : (a b : ℕ) → (if is_near (take (suc i) es) a b then front_cost es cs (suc i) a b else 0)
        ≡ (if is_near (take i es) a b || joins e a b then fold min (front_cost es cs i a b) (one_cost (joins e a b) c) else 0)
    right a b =
        let near : is_near (take (suc i) es) a b ≡ (is_near (take i es) a b || joins e a b) = near-more es i a b l ∙ ap (λ (f : ℕ × ℕ). is_near (take i es) a b || joins f a b) (sym ee) in
        let costs : front_cost es cs (suc i) a b ≡ fold min (front_cost es cs i a b) (one_cost (joins e a b) c) =
        ap (fold min most_cost) (costs-more es cs i a b l listing.long ∙ (λ z. pair_costs (take i es) (take i cs) a b ++ one_cost (joins (sym ee z) a b) (sym ec z)))
        ∙ least-append most_cost (pair_costs (take i es) (take i cs) a b) (one_cost (joins e a b) c) in
        λ z. if near z then costs z else 0

    least-both : (a b : ℕ) → ((e.0 ≡ a) × (e.1 ≡ b)) ⊎ ((e.0 ≡ b) × (e.1 ≡ a)) → v ≡ min (front_cost es cs i a b) c
    least-both a b (inl h) =
        ev ∙ lessened-is es cs i a b (get_or table (e.0 * n + e.1) 0) c listing small
        (p.says e.0 e.1 h0 h1 ∙ (λ z. if is_near (take i es) (h.0 z) (h.1 z) then front_cost es cs i (h.0 z) (h.1 z) else 0))
    least-both a b (inr h) =
        ev ∙ lessened-is es cs i a b (get_or table (e.0 * n + e.1) 0) c listing small
        (p.says e.0 e.1 h0 h1 ∙ (λ z. if is_near (take i es) (h.0 z) (h.1 z) then front_cost es cs i (h.0 z) (h.1 z) else 0)
        ∙ (λ z. if is_near-turned (take i es) b a z then front-turned es cs i b a z else 0))

    written : (a b : ℕ) → ((e.0 ≡ a) × (e.1 ≡ b)) ⊎ ((e.0 ≡ b) × (e.1 ≡ a)) → get_or (with_edge n table e v) (a * n + b) 0 ≡ v
    written a b (inr h) =
        (λ z. get_or (with_edge n table e v) (sym h.1 z * n + sym h.0 z) 0) ∙ get_or-set_same (set table (e.0 * n + e.1) v) (e.1 * n + e.0) v 0 back
    written a b (inl h) = (λ z. get_or (with_edge n table e v) (sym h.0 z * n + sym h.1 z) 0) ∙ go (cases_eq (e.0 * n + e.1) (e.1 * n + e.0))
      where
        go : (e.0 * n + e.1 ≡ e.1 * n + e.0) ⊎ (e.0 * n + e.1 ≡ e.1 * n + e.0 → ⊥) → get_or (with_edge n table e v) (e.0 * n + e.1) 0 ≡ v
        go (inl s) = ap (λ m. get_or (with_edge n table e v) m 0) s ∙ get_or-set_same (set table (e.0 * n + e.1) v) (e.1 * n + e.0) v 0 back
        go (inr s) = get_or-set_other (set table (e.0 * n + e.1) v) (e.1 * n + e.0) (e.0 * n + e.1) v 0 s ∙ get_or-set_same table (e.0 * n + e.1) v 0 place

    kept : (a b : ℕ) → a < n → b < n → ((e.0 ≡ a) × (e.1 ≡ b) → ⊥) → ((e.0 ≡ b) × (e.1 ≡ a) → ⊥) → get_or (with_edge n table e v) (a * n + b) 0 ≡ get_or table (a * n + b) 0
    kept a b la lb off away =
        get_or-set_other (set table (e.0 * n + e.1) v) (e.1 * n + e.0) (a * n + b) v 0 (λ s. let r = same_from_place a b e.1 e.0 n lb h0 s in away (sym r.1, sym r.0))
        ∙ get_or-set_other table (e.0 * n + e.1) (a * n + b) v 0 (λ s. let r = same_from_place a b e.0 e.1 n lb h1 s in off (sym r.0, sym r.1))

    plain : (t : Bool) (k : ℕ) → (if t then k else 0) ≡ (if t || false then k else 0)
    plain true k = refl
    plain false k = refl

    sure : (t : Bool) (k : ℕ) → (if t || true then k else 0) ≡ k
    sure true k = refl
    sure false k = refl

    at : (a b : ℕ) → a < n → b < n → (j : Bool) → joins e a b ≡ j
        → get_or (with_edge n table e v) (a * n + b) 0 ≡ (if is_near (take i es) a b || joins e a b then fold min (front_cost es cs i a b) (one_cost (joins e a b) c) else 0)
    at a b la lb true t =
        written a b (joined_ends e a b t) ∙ least-both a b (joined_ends e a b t)
        ∙ sym (sure (is_near (take i es) a b) (min (front_cost es cs i a b) c))
        ∙ (λ z. if is_near (take i es) a b || sym t z then fold min (front_cost es cs i a b) (one_cost (sym t z) c) else 0)
    at a b la lb false t =
        let s = apart_ends e a b t in
        kept a b la lb s.0 s.1 ∙ p.says a b la lb ∙ plain (is_near (take i es) a b) (front_cost es cs i a b)
        ∙ (λ z. if is_near (take i es) a b || sym t z then fold min (front_cost es cs i a b) (one_cost (sym t z) c) else 0)

-- ---- near pairs
pub priced-near : (n : ℕ) (es : List (ℕ × ℕ)) (k : EdgeCosts) → All (λ e. (e.0 < n) × (e.1 < n)) es → ArePriced n es k → (a b : ℕ) → IsTrue (is_near es a b)
    → kept_price k a b ≡ cost_of es (listed_costs k) a b
priced-near n es (Unit u) h p a b t = refl
priced-near n es (Listed cs m) h p a b t =
    let l = is_near-below n es a b h t in
    p.1.says a b (omega (arith, l.0, p.0)) (omega (arith, l.1, p.0)) ∙ (λ z. if t z then cost_of es (Some cs.items) a b else 0)

pub listed-near : (n : ℕ) (es : List (ℕ × ℕ)) (k : EdgeCosts) → All (λ e. (e.0 < n) × (e.1 < n)) es → AreCosts es (listed_costs k) → ArePriced n es k → (a b : ℕ) → IsTrue (is_near es a b)
    → HasCost k a b
listed-near n es (Unit u) h costs p a b t = tt
listed-near n es (Listed cs m) h costs p a b t =
    let l = is_near-below n es a b h t in
    let back : IsTrue (is_near es b a) = is_near-turned es b a ∙ t in
    let here = priced-near n es (Listed cs m) h p a b t in
    let there = priced-near n es (Listed cs m) h p b a back in
    let one = by_listing es (Some cs.items) costs a b in
    let other = by_listing es (Some cs.items) costs b a in
    record {
      first = omega (arith, l.0, p.0);
      second = omega (arith, l.1, p.0);
      positive = omega (arith, here, one.0);
      limited = omega (arith, here, one.1, cost_small);
      same = here ∙ turned_by es (Some cs.items) a b ∙ sym there;
      positive_back = omega (arith, there, other.0);
      limited_back = omega (arith, there, other.1, cost_small);
    }

pub IsPriced-next : (n : ℕ) (es : List (ℕ × ℕ)) (cs : List ℕ) (i : ℕ) (e : ℕ × ℕ) (c v : ℕ) (table : List ℕ) → i < length es → AreListed es cs → e ≡ get_or es i (0, 0) → c ≡ get_or cs i 0
    → e.0 < n → e.1 < n → v ≡ lessened (get_or table (e.0 * n + e.1) 0) c → IsPriced (take i es) (take i cs) (record { size = n; table = table })
    → IsPriced (take (i + 1) es) (take (i + 1) cs) (record { size = n; table = with_edge n table e v })
IsPriced-next n es cs i e c v table l listing ee ec h0 h1 ev p =
    let next : suc i ≡ i + 1 = omega arith in
    subst (λ m. IsPriced (take m es) (take m cs) (record { size = n; table = with_edge n table e v })) next (IsPriced-more n es cs i e c v table l listing ee ec h0 h1 ev p)
