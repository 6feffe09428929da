-- Laws of a device: that it is connected, and the step toward a qubit.
--   IsCoupling-made        a graph with the distances of all pairs
--   not_near_itself        no qubit is near itself
--   zero-distance          which qubits are at distance 0
--   one-distance           which are at distance 1, where near pairs cost 1
--   IsNearer-by, IsNearer-not    what the test of two distances says
--   before-more            one more of the near qubits isn't nearer
--   nearer                 some near qubit is one nearer
--   IsToward-found         the first of the near qubits that is one nearer
--   toward_exists          one of them is
use Rattle.std.proofs.Common.{◌≡◌, ℕ, ◌+◌, ◌<◌, Bool, true, false, List, [], ◌∷◌, length, get_or, refl, sym, ap, ◌∙◌, subst, arith, ◌⊎◌, inl, inr}
use Rattle.std.specs.Prelude.{All, IsTrue, ◌==◌, ◌&&◌, ◌||◌, ◌↔◌}
use Rattle.std.specs.List.{list_any}
use Rattle.std.proofs.lemmas.List.{get_or_default}
use Rattle.std.proofs.lemmas.List.Elements.{All-get_or, All-head, All-tail}
use Rattle.std.proofs.lemmas.Bool.{cases_eq, cases_lt}
use Rattle.std.proofs.lemmas.Bool.Decides.{nat_tests}
use Rattle.coupling_map.specs.Walks.{is_edge, is_near, walk_cost, IsWalk, IsDistance}
use Rattle.coupling_map.specs.Costs.{AreCosts}
use Rattle.coupling_map.specs.Coupling.{Coupling, cost, IsGraph, IsCoupling, IsNeighbours, IsNearer, IsToward}
use Rattle.coupling_map.specs.Tables.{AreDistances}
use Rattle.coupling_map.proofs.WalkLaws.{is_near-below, IsDistance-same, IsDistance-self, IsDistance-zero, IsDistance-one, IsPositive}

pub IsCoupling-made : (d : Coupling) (table : List ℕ) → IsGraph d.size d.edges → AreCosts d.edges d.costs → AreDistances d.size d.edges (cost d) d.size table → IsCoupling d
IsCoupling-made d table g k t = record {
  graph = g;
  connected = λ a b la lb. let w = (t.exact a b la lb).walked in (w.0, w.2);
  costs = k;
}

-- no qubit is near itself
or_cases : (p q : Bool) → (p || q) ≡ true → (p ≡ true) ⊎ (q ≡ true)
or_cases true q h = inl refl
or_cases false q h = inr h

both_ends : (x y a : ℕ) → (x == a && y == a) ≡ true → x ≡ y
both_ends x y a t = grind (arith, nat_tests)

no_edge : (es : List (ℕ × ℕ)) (a : ℕ) → All (λ e. e.0 ≡ e.1 → ⊥) es → list_any (λ e. e.0 == a && e.1 == a) es ≡ true → ⊥
no_edge [] a h t = cc
no_edge (e ∷ es) a h t = elim (or_cases (e.0 == a && e.1 == a) (list_any (λ e. e.0 == a && e.1 == a) es) t) [
  | inl here ↦ All-head (λ (e : ℕ × ℕ). e.0 ≡ e.1 → ⊥) e es h (both_ends e.0 e.1 a here)
  | inr later ↦ no_edge es a (All-tail (λ (e : ℕ × ℕ). e.0 ≡ e.1 → ⊥) e es h) later
]

pub not_near_itself : (n : ℕ) (es : List (ℕ × ℕ)) (a : ℕ) → IsGraph n es → IsTrue (is_near es a a) → ⊥
unfolding is_near is_edge
not_near_itself n es a g t = no_edge es a g.loopless (twice (list_any (λ e. e.0 == a && e.1 == a) es) t)
  where
    twice : (p : Bool) → (p || p) ≡ true → p ≡ true
    twice true t = t
    twice false t = t

pub zero-distance : (es : List (ℕ × ℕ)) (w : ℕ → ℕ → ℕ) (a b k : ℕ) → IsPositive es w → IsDistance es w a b k → (k ≡ 0) ↔ (a ≡ b)
zero-distance es w a b k p h = (
  λ e. IsDistance-zero es w a b p (subst (IsDistance es w a b) e h),
  λ e. IsDistance-same es w a b k 0 h (subst (λ c. IsDistance es w a c 0) e (IsDistance-self es w a)),
)

pub one-distance : (n : ℕ) (es : List (ℕ × ℕ)) (w : ℕ → ℕ → ℕ) (a b k : ℕ) → IsGraph n es → ((a b : ℕ) → w a b ≡ 1) → IsDistance es w a b k → (k ≡ 1) ↔ IsTrue (is_near es a b)
one-distance n es w a b k g one h = (
  λ e. IsDistance-one es w a b positive (subst (IsDistance es w a b) e h),
  λ t. omega (arith, h.least (b ∷ []) (t, refl), one a b, not_zero t),
)
  where
    positive : IsPositive es w
    positive x y t = omega (arith, one x y)

    not_zero : IsTrue (is_near es a b) → k ≡ 0 → ⊥
    not_zero t e = not_near_itself n es a g (subst (λ x. IsTrue (is_near es a x)) (sym ((zero-distance es w a b k positive h).0 e)) t)

-- ---- the step toward a qubit

pub IsNearer-by : (es : List (ℕ × ℕ)) (w : ℕ → ℕ → ℕ) (a b c j k : ℕ) → IsDistance es w c b j → IsDistance es w a b k → w a c + j ≡ k → IsNearer es w a b c
IsNearer-by es w a b c j k h g e = (j, h, subst (IsDistance es w a b) (sym e) g)

pub IsNearer-not : (es : List (ℕ × ℕ)) (w : ℕ → ℕ → ℕ) (a b c j k : ℕ) → IsDistance es w c b j → IsDistance es w a b k → (w a c + j ≡ k → ⊥) → IsNearer es w a b c → ⊥
IsNearer-not es w a b c j k h g ne t =
    ne (ap (λ m. w a c + m) (IsDistance-same es w c b j t.0 h t.1) ∙ IsDistance-same es w a b (w a c + t.0) k t.2 g)

pub before-more : (es : List (ℕ × ℕ)) (w : ℕ → ℕ → ℕ) (a b j k i : ℕ) (near : List ℕ) → IsDistance es w (get_or near i 0) b j → IsDistance es w a b k → (w a (get_or near i 0) + j ≡ k → ⊥)
    → ((m : ℕ) → m < i → IsNearer es w a b (get_or near m 0) → ⊥) → (m : ℕ) → m < i + 1 → IsNearer es w a b (get_or near m 0) → ⊥
before-more es w a b j k i near h g ne before m l t = elim (cases_eq m i) [
  | inl same ↦ IsNearer-not es w a b (get_or near i 0) j k h g ne (subst (λ x. IsNearer es w a b (get_or near x 0)) same t)
  | inr other ↦ before m (omega (arith, l, other)) t
]

pub nearer : (es : List (ℕ × ℕ)) (w : ℕ → ℕ → ℕ) (a b k : ℕ) → IsDistance es w a b k → (a ≡ b → ⊥) → (c : ℕ) × IsTrue (is_near es a c) × IsNearer es w a b c
nearer es w a b k h ne = go h.walked.0 h.walked.1 h.walked.2
  where
    go : (cs : List ℕ) → walk_cost w a cs ≡ k → IsWalk es a cs b → (c : ℕ) × IsTrue (is_near es a c) × IsNearer es w a b c
    go [] e g = absurd (ne g)
    go (c ∷ cs) e g =
        let rest : IsDistance es w c b (walk_cost w c cs) = record {
          walked = (cs, refl, g.1);
          least = λ ds v. let l = h.least (c ∷ ds) (g.0, v) in omega (arith, l, e);
        } in
        (c, g.0, IsNearer-by es w a b c (walk_cost w c cs) k rest h e)

pub IsToward-found : (n : ℕ) (es : List (ℕ × ℕ)) (w : ℕ → ℕ → ℕ) (a b c k : ℕ) (near : List ℕ) → IsGraph n es → IsNeighbours n es a near → k < length near → c ≡ get_or near k 0
    → ((j : ℕ) → j < k → IsNearer es w a b (get_or near j 0) → ⊥) → IsNearer es w a b c → IsToward es w a b c
IsToward-found n es w a b c k near h g l e before here = record {
  near = subst (λ x. IsTrue (is_near es a x)) (sym e) (All-get_or (λ x. (x < n) × IsTrue (is_near es a x)) near k 0 l g.each).1;
  nearer = here;
  least = λ x lx t f.
      let s = g.every x (is_near-below n es a x h.within t).1 t in
      let r : get_or near s.0 0 ≡ x = get_or_default near s.0 0 x s.1 ∙ s.2 in
      elim (cases_lt s.0 k) [
        | inl earlier ↦ before s.0 earlier (subst (IsNearer es w a b) (sym r) f)
        | inr later ↦ elim (cases_eq s.0 k) [
          | inl same ↦ let z : c ≡ x = e ∙ ap (λ i. get_or near i 0) (sym same) ∙ r in omega (arith, lx, z)
          | inr ne ↦ let up : get_or near k 0 < get_or near s.0 0 = g.ascending k s.0 (omega (arith, later, ne)) s.1 in omega (arith, lx, e, r, up)
        ]
      ];
}

pub toward_exists : (n : ℕ) (es : List (ℕ × ℕ)) (w : ℕ → ℕ → ℕ) (a b k : ℕ) (near : List ℕ) → IsGraph n es → IsNeighbours n es a near → IsDistance es w a b k → (a ≡ b → ⊥)
    → ((j : ℕ) → j < length near → IsNearer es w a b (get_or near j 0) → ⊥) → ⊥
toward_exists n es w a b k near h g d ne without =
    let c = nearer es w a b k d ne in
    let s = g.every c.0 (is_near-below n es a c.0 h.within c.1).1 c.1 in
    without s.0 s.1 (subst (IsNearer es w a b) (sym (get_or_default near s.0 0 c.0 s.1 ∙ s.2)) c.2)
