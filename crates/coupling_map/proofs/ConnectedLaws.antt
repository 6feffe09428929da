-- On a connected device `dist` is the distance of every two qubits.
--   short-walk         each walk has one that costs no more, whose qubits differ
--   walk-few           so it has fewer pairs than there are qubits
--   device-exact, -short, -symmetric, -zero, -step, -costs, -near, -computed
--                      what `dist` is of two qubits of a device
--   few-without_costs, one-without_costs      distances on a device without costs
--   diameter-without_costs                    .. and the greatest of them
--   device-few, -one     what `dist` is there
--   device-hops, hops-few   there are hops from each qubit to each, fewer than there are qubits, whatever the costs are
use Rattle.std.proofs.Common.{◌≡◌, ◌≢◌, ℕ, suc, ◌+◌, ◌*◌, ◌<◌, ◌≤◌, ◌||◌, Bool, true, false, List, [], ◌∷◌, None, All, length, nat_eq, refl, sym, ap, ◌∙◌, subst, arith, inl, inr}
use Rattle.std.specs.Prelude.{◌↔◌, IsTrue}
use Rattle.std.specs.List.{list_any, AllByRecursion, IsDistinct}
use Rattle.std.proofs.Math.Nat.{suc-mul, mul-le-mul_right}
use Rattle.std.proofs.lemmas.Bool.{cases_eq}
use Rattle.std.proofs.lemmas.Bool.Decides.{nat_tests}
use Rattle.std.proofs.lemmas.Map.Steps.{length-le_from_distinct_below}
use Rattle.coupling_map.specs.Costs.{most_cost, cost_of}
use Rattle.coupling_map.specs.Coupling.{Coupling, cost, dist, IsCoupling}
use Rattle.coupling_map.specs.Walks.{cheapest, distance, is_near, walk_cost, IsDiameter, IsDistance, IsHops, IsWalk}
use Rattle.coupling_map.proofs.Limits.{one_limited}
use Rattle.coupling_map.proofs.CostLaws.{cost-limited, cost-positive, cost-symmetric}
use Rattle.coupling_map.proofs.CouplingLaws.{not_near_itself, one-distance, zero-distance}
use Rattle.coupling_map.proofs.DistanceLaws.{cheapest-along, cheapest-walk}
use Rattle.coupling_map.proofs.WalkLaws.{is_near-below, IsDistance-same, IsDistance-symmetric}

-- ---- a walk whose qubits differ
unequal : (x y : ℕ) → (x ≡ y → ⊥) → nat_eq x y ≡ false
unequal x y ne = grind (arith, nat_tests)

in_tail : (x c : ℕ) (cs : List ℕ) → (x ≡ c → ⊥) → list_any (nat_eq x) (c ∷ cs) ≡ true → list_any (nat_eq x) cs ≡ true
in_tail x c cs ne t = sym (λ i. unequal x c ne i || list_any (nat_eq x) cs) ∙ t

abbrev IsShort : List (ℕ × ℕ) → (ℕ → ℕ → ℕ) → ℕ → ℕ → ℕ → Type 0
IsShort es w a b k = (ds : List ℕ) × (walk_cost w a ds ≤ k) × IsWalk es a ds b × IsDistinct nat_eq (a ∷ ds)

-- from a qubit of the walk on
rest-found : (es : List (ℕ × ℕ)) (w : ℕ → ℕ → ℕ) (cs : List ℕ) (a b x : ℕ) → IsWalk es a cs b → IsDistinct nat_eq (a ∷ cs) → list_any (nat_eq x) cs ≡ true → IsShort es w x b (walk_cost w a cs)
unfolding IsDistinct
rest-found es w [] a b x g d t = absurd (cc)
rest-found es w (c ∷ cs) a b x g d t = elim (cases_eq x c) [
  | inl e ↦ subst (λ y. IsShort es w y b (walk_cost w a (c ∷ cs))) (sym e) (cs, omega arith, g.1, d.1)
  | inr ne ↦ let r = rest-found es w cs c b x g.1 d.1 (in_tail x c cs ne t) in (r.0, omega (arith, r.1), r.2, r.3)
]

none-equal : (a : ℕ) (cs : List ℕ) → list_any (nat_eq a) cs ≡ false → AllByRecursion (λ y. nat_eq a y ≡ false) cs
none-equal a [] h = tt
none-equal a (c ∷ cs) h = go (nat_eq a c) refl h (none-equal a cs)
  where
    go : (t : Bool) → nat_eq a c ≡ t → (nat_eq a c || list_any (nat_eq a) cs) ≡ false → (list_any (nat_eq a) cs ≡ false → AllByRecursion (λ y. nat_eq a y ≡ false) cs)
        → AllByRecursion (λ y. nat_eq a y ≡ false) (c ∷ cs)
    go true e f later = absurd (let z : true ≡ false = sym (λ i. e i || list_any (nat_eq a) cs) ∙ f in cc)
    go false e f later = (e, later (sym (λ i. e i || list_any (nat_eq a) cs) ∙ f))

pub short-walk : (es : List (ℕ × ℕ)) (w : ℕ → ℕ → ℕ) (cs : List ℕ) (a b : ℕ) → IsWalk es a cs b → IsShort es w a b (walk_cost w a cs)
unfolding IsDistinct
short-walk es w [] a b g = ([], omega arith, g, (tt, tt))
short-walk es w (c ∷ cs) a b g = go (short-walk es w cs c b g.1)
  where
    go : IsShort es w c b (walk_cost w c cs) → IsShort es w a b (walk_cost w a (c ∷ cs))
    go r = by (list_any (nat_eq a) (c ∷ r.0)) refl
      where
        by : (t : Bool) → list_any (nat_eq a) (c ∷ r.0) ≡ t → IsShort es w a b (walk_cost w a (c ∷ cs))
        by false t = (c ∷ r.0, omega (arith, r.1), (g.0, r.2), (none-equal a (c ∷ r.0) t, r.3))
        by true t = elim (cases_eq a c) [
          | inl e ↦ subst (λ y. IsShort es w y b (walk_cost w a (c ∷ cs))) (sym e) (r.0, omega (arith, r.1), r.2, r.3)
          | inr ne ↦ let f = rest-found es w r.0 c b a r.2 r.3 (in_tail a c r.0 ne t) in (f.0, omega (arith, f.1, r.1), f.2, f.3)
        ]

below-walk : (n : ℕ) (es : List (ℕ × ℕ)) (cs : List ℕ) (a b x : ℕ) → All (λ e. (e.0 < n) × (e.1 < n)) es → IsWalk es a cs b → list_any (nat_eq x) cs ≡ true → x < n
below-walk n es [] a b x h g t = absurd (cc)
below-walk n es (c ∷ cs) a b x h g t = elim (cases_eq x c) [
  | inl e ↦ omega (arith, e, (is_near-below n es a c h g.0).1)
  | inr ne ↦ below-walk n es cs c b x h g.1 (in_tail x c cs ne t)
]

pub walk-few : (n : ℕ) (es : List (ℕ × ℕ)) (cs : List ℕ) (a b : ℕ) → All (λ e. (e.0 < n) × (e.1 < n)) es → a < n → IsWalk es a cs b → IsDistinct nat_eq (a ∷ cs) → length cs < n
walk-few n es cs a b h l g d =
    let few : length (a ∷ cs) ≤ n =
    length-le_from_distinct_below (a ∷ cs) n d
    (λ x t. elim (cases_eq x a) [
      | inl e ↦ omega (arith, e, l)
      | inr ne ↦ below-walk n es cs a b x h g (in_tail x a cs ne t)
    ]) in
    omega (arith, few)

pub walk-limited : (es : List (ℕ × ℕ)) (w : ℕ → ℕ → ℕ) (top : ℕ) → ((a b : ℕ) → w a b ≤ top) → (cs : List ℕ) (a : ℕ) → walk_cost w a cs ≤ length cs * top
walk-limited es w top h [] a = omega arith
walk-limited es w top h (c ∷ cs) a = omega (arith, h a c, walk-limited es w top h cs c, suc-mul (length cs) top)

-- ---- the distances of a device
short-cost : (d : Coupling) (a b : ℕ) → IsCoupling d → a < d.size → b < d.size → (cs : List ℕ) × (walk_cost (cost d) a cs + most_cost ≤ d.size * most_cost) × IsWalk d.edges a cs b
short-cost d a b h la lb =
    let g = h.connected a b la lb in
    let r = short-walk d.edges (cost d) g.0 a b g.1 in
    let few : suc (length r.0) ≤ d.size = omega (arith, walk-few d.size d.edges r.0 a b h.graph.within la r.2 r.3) in
    (r.0, omega (arith, walk-limited d.edges (cost d) most_cost (cost-limited d h) r.0 a, suc-mul (length r.0) most_cost, mul-le-mul_right most_cost few), r.2)

pub device-exact : (d : Coupling) (a b : ℕ) → IsCoupling d → a < d.size → b < d.size → IsDistance d.edges (cost d) a b (dist d a b)
unfolding dist distance
device-exact d a b h la lb =
    let s = short-cost d a b h la lb in
    let k = cheapest most_cost d.size d.edges (cost d) d.size a b in
    record {
      walked = cheapest-walk most_cost d.size d.edges (cost d) d.size a b (omega (arith, least s.0 s.2, s.1, one_limited));
      least = least;
    }
  where
    least : (cs : List ℕ) → IsWalk d.edges a cs b → cheapest most_cost d.size d.edges (cost d) d.size a b ≤ walk_cost (cost d) a cs
    least cs g =
        let r = short-walk d.edges (cost d) cs a b g in
        let few = walk-few d.size d.edges r.0 a b h.graph.within la r.2 r.3 in
        omega (arith, r.1, cheapest-along most_cost d.size d.edges (cost d) h.graph.within d.size r.0 a b r.2 (omega (arith, few)))

pub device-computed : (d : Coupling) (a b k : ℕ) → IsCoupling d → a < d.size → b < d.size → IsDistance d.edges (cost d) a b k → dist d a b ≡ k
device-computed d a b k h la lb e = IsDistance-same d.edges (cost d) a b (dist d a b) k (device-exact d a b h la lb) e

pub device-short : (d : Coupling) (a b : ℕ) → IsCoupling d → a < d.size → b < d.size → dist d a b + most_cost ≤ d.size * most_cost
device-short d a b h la lb =
    let s = short-cost d a b h la lb in
    omega (arith, s.1, (device-exact d a b h la lb).least s.0 s.2)

pub device-symmetric : (d : Coupling) (a b : ℕ) → IsCoupling d → a < d.size → b < d.size → dist d a b ≡ dist d b a
device-symmetric d a b h la lb =
    IsDistance-same d.edges (cost d) a b _ _ (device-exact d a b h la lb) (IsDistance-symmetric d.edges (cost d) (λ x y t. cost-symmetric d x y) b a _ (device-exact d b a h lb la))

pub device-zero : (d : Coupling) (a b : ℕ) → IsCoupling d → a < d.size → b < d.size → (dist d a b ≡ 0) ↔ (a ≡ b)
device-zero d a b h la lb = zero-distance d.edges (cost d) a b _ (λ x y t. cost-positive d h x y) (device-exact d a b h la lb)

pub device-near : (d : Coupling) (a b : ℕ) → IsCoupling d → IsTrue (is_near d.edges a b) → (a < d.size) × (b < d.size) × (a ≢ b)
device-near d a b h t =
    let l = is_near-below d.size d.edges a b h.graph.within t in
    (l.0, l.1, λ e. not_near_itself d.size d.edges a h.graph (subst (λ x. IsTrue (is_near d.edges a x)) (sym e) t))

pub device-step : (d : Coupling) (a b c : ℕ) → IsCoupling d → c < d.size → IsTrue (is_near d.edges a b) → dist d a c ≤ cost d a b + dist d b c
device-step d a b c h lc t =
    let l = device-near d a b h t in
    let walk = (device-exact d b c h l.1 lc).walked in
    omega (arith, walk.1, (device-exact d a c h l.0 lc).least (b ∷ walk.0) (t, walk.2))

pub device-costs : (d : Coupling) (a b : ℕ) → IsCoupling d → (1 ≤ cost d a b) × (cost d a b ≤ most_cost)
device-costs d a b h = (cost-positive d h a b, cost-limited d h a b)

-- ---- where no costs are listed
unit-cost : (d : Coupling) → d.costs ≡ None → (a b : ℕ) → cost d a b ≡ 1
unit-cost d n a b = ap (λ o. cost_of d.edges o a b) n

pub few-without_costs : (d : Coupling) (a b k : ℕ) → IsCoupling d → d.costs ≡ None → a < d.size → b < d.size → IsDistance d.edges (cost d) a b k → k < d.size
few-without_costs d a b k h n la lb e =
    let g = h.connected a b la lb in
    let r = short-walk d.edges (cost d) g.0 a b g.1 in
    let most = walk-limited d.edges (cost d) 1 (λ x y. omega (arith, unit-cost d n x y)) r.0 a in
    omega (arith, e.least r.0 r.2, most, walk-few d.size d.edges r.0 a b h.graph.within la r.2 r.3)

pub one-without_costs : (d : Coupling) (a b k : ℕ) → IsCoupling d → d.costs ≡ None → IsDistance d.edges (cost d) a b k → (k ≡ 1) ↔ IsTrue (is_near d.edges a b)
one-without_costs d a b k h n e = one-distance d.size d.edges (cost d) a b k h.graph (unit-cost d n) e

pub diameter-without_costs : (d : Coupling) (k : ℕ) → IsCoupling d → d.costs ≡ None → IsDiameter d.size d.edges (cost d) k → k < d.size
diameter-without_costs d k h n e = let r = e.reached in few-without_costs d r.0 r.1 k h n r.2 r.3 r.4

pub device-few : (d : Coupling) (a b : ℕ) → IsCoupling d → d.costs ≡ None → a < d.size → b < d.size → dist d a b < d.size
device-few d a b h n la lb = few-without_costs d a b _ h n la lb (device-exact d a b h la lb)

pub device-one : (d : Coupling) (a b : ℕ) → IsCoupling d → d.costs ≡ None → a < d.size → b < d.size → (dist d a b ≡ 1) ↔ IsTrue (is_near d.edges a b)
device-one d a b h n la lb = one-without_costs d a b _ h n (device-exact d a b h la lb)

-- ---- near pairs alone, whatever they cost
bare : Coupling → Coupling
bare d = record { size = d.size; edges = d.edges; costs = None }

bare-device : (d : Coupling) → IsCoupling d → IsCoupling (bare d)
unfolding bare
bare-device d h = record { graph = h.graph; connected = h.connected; costs = tt }

pub device-hops : (d : Coupling) (a b : ℕ) → IsCoupling d → a < d.size → b < d.size → (k : ℕ) × (k < d.size) × IsHops d.edges a b k
unfolding bare
device-hops d a b h la lb =
    let g = bare-device d h in
    (dist (bare d) a b, device-few (bare d) a b g refl la lb, device-exact (bare d) a b g la lb)

pub hops-few : (d : Coupling) (a b k : ℕ) → IsCoupling d → a < d.size → b < d.size → IsHops d.edges a b k → k < d.size
unfolding bare
hops-few d a b k h la lb e = few-without_costs (bare d) a b k (bare-device d h) refl la lb e
