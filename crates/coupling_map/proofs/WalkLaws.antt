-- Laws of near qubits, walks and distances.
--   is_near-symmetric      nearness goes both ways
--   is_near-below          near qubits are qubits of the device
--   IsSymmetric es w       near pairs cost the same both ways;  IsPositive es w: they cost something
--   IsWalk-turned          two walks from one qubit join their ends, with the sum of their costs
--   IsWalk-joined          .. by any walk
--   walk_cost-same         a walk's cost is by the costs of near pairs
--   IsDistance-symmetric, IsDistance-same, IsDistance-self, IsDistance-zero, IsDistance-one, IsDistance-by
use Rattle.std.proofs.Common.{◌≡◌, ℕ, ◌+◌, ◌<◌, ◌≤◌, Bool, true, false, List, [], ◌∷◌, refl, sym, ap, ◌∙◌, subst, arith, ◌⊎◌, inl, inr}
use Rattle.std.specs.Prelude.{All, IsTrue, ◌==◌, ◌&&◌, ◌||◌}
use Rattle.std.specs.List.{list_any}
use Rattle.std.proofs.lemmas.Bool.Decides.{nat_tests}
use Rattle.std.proofs.lemmas.List.Elements.{All-head, All-tail}
use Rattle.coupling_map.specs.Walks.{is_edge, is_near, walk_cost, IsDistance, IsJoined, IsWalk}

or_comm : (p q : Bool) → (p || q) ≡ (q || p)
or_comm true true = refl
or_comm true false = refl
or_comm false true = refl
or_comm false false = refl

pub is_near-symmetric : (es : List (ℕ × ℕ)) (a b : ℕ) → is_near es a b ≡ is_near es b a
unfolding is_near
is_near-symmetric es a b = or_comm (is_edge es a b) (is_edge es b a)

pub near_back : (es : List (ℕ × ℕ)) (a b : ℕ) → IsTrue (is_near es a b) → IsTrue (is_near es b a)
near_back es a b h = subst IsTrue (is_near-symmetric es a b) h

or_cases : (p q : Bool) → (p || q) ≡ true → (p ≡ true) ⊎ (q ≡ true)
or_cases true q h = inl refl
or_cases false q h = inr h

both_equal : (x y a b : ℕ) → (x == a && y == b) ≡ true → (x ≡ a) × (y ≡ b)
both_equal x y a b h = (grind (arith, nat_tests), grind (arith, nat_tests))

list_any-below : (n a b : ℕ) (es : List (ℕ × ℕ)) → All (λ e. (e.0 < n) × (e.1 < n)) es
    → list_any (λ e. e.0 == a && e.1 == b) es ≡ true → (a < n) × (b < n)
list_any-below n a b [] h t = absurd (cc)
list_any-below n a b (e ∷ es) h t = elim (or_cases (e.0 == a && e.1 == b) (list_any (λ e. e.0 == a && e.1 == b) es) t) [
  | inl here ↦ let s = both_equal e.0 e.1 a b here in let g = All-head (λ (e : ℕ × ℕ). (e.0 < n) × (e.1 < n)) e es h in (omega (arith, s.0, g.0), omega (arith, s.1, g.1))
  | inr later ↦ list_any-below n a b es (All-tail (λ (e : ℕ × ℕ). (e.0 < n) × (e.1 < n)) e es h) later
]

is_edge-below : (n : ℕ) (es : List (ℕ × ℕ)) (a b : ℕ) → All (λ e. (e.0 < n) × (e.1 < n)) es → is_edge es a b ≡ true → (a < n) × (b < n)
unfolding is_edge
is_edge-below n es a b h t = list_any-below n a b es h t

pub is_near-below : (n : ℕ) (es : List (ℕ × ℕ)) (a b : ℕ) → All (λ e. (e.0 < n) × (e.1 < n)) es → IsTrue (is_near es a b) → (a < n) × (b < n)
unfolding is_near
is_near-below n es a b h t = elim (or_cases (is_edge es a b) (is_edge es b a) t) [
  | inl there ↦ is_edge-below n es a b h there
  | inr back ↦ let g = is_edge-below n es b a h back in (g.1, g.0)
]

abbrev pub IsSymmetric : List (ℕ × ℕ) → (ℕ → ℕ → ℕ) → Type 0
IsSymmetric es w = (a b : ℕ) → IsTrue (is_near es a b) → w a b ≡ w b a

abbrev pub IsPositive : List (ℕ × ℕ) → (ℕ → ℕ → ℕ) → Type 0
IsPositive es w = (a b : ℕ) → IsTrue (is_near es a b) → 1 ≤ w a b

-- Two walks from one qubit make a walk from the end of the first to the end of the second.
pub IsWalk-turned : (es : List (ℕ × ℕ)) (w : ℕ → ℕ → ℕ) → IsSymmetric es w → (cs : List ℕ) (a b : ℕ) → IsWalk es a cs b → (ds : List ℕ) (z : ℕ) → IsWalk es a ds z
    → (fs : List ℕ) × (walk_cost w b fs ≡ walk_cost w a cs + walk_cost w a ds) × IsWalk es b fs z
IsWalk-turned es w m [] a b e ds z h = (ds, omega (arith, ap (λ x. walk_cost w x ds) e), subst (λ x. IsWalk es x ds z) e h)
IsWalk-turned es w m (c ∷ cs) a b g ds z h =
    let r = IsWalk-turned es w m cs c b g.1 (a ∷ ds) z (near_back es a c g.0, h) in
    (r.0, omega (arith, r.1, m a c g.0), r.2)

-- a walk backwards
pub IsWalk-back : (es : List (ℕ × ℕ)) (w : ℕ → ℕ → ℕ) → IsSymmetric es w → (cs : List ℕ) (a b : ℕ) → IsWalk es a cs b → (fs : List ℕ) × (walk_cost w b fs ≡ walk_cost w a cs) × IsWalk es b fs a
IsWalk-back es w m cs a b h =
    let r = IsWalk-turned es w m cs a b h [] a refl in
    (r.0, omega (arith, r.1), r.2)

pub IsWalk-joined : (es : List (ℕ × ℕ)) (a b z : ℕ) → IsJoined es a b → IsJoined es a z → IsJoined es b z
IsWalk-joined es a b z h g = let r = IsWalk-turned es (λ x y. 1) (λ x y t. refl) h.0 a b h.1 g.0 z g.1 in (r.0, r.2)

pub walk_cost-same : (es : List (ℕ × ℕ)) (v w : ℕ → ℕ → ℕ) → ((a b : ℕ) → IsTrue (is_near es a b) → v a b ≡ w a b) → (cs : List ℕ) (a b : ℕ) → IsWalk es a cs b → walk_cost v a cs ≡ walk_cost w a cs
walk_cost-same es v w h [] a b g = refl
walk_cost-same es v w h (c ∷ cs) a b g = omega (arith, h a c g.0, walk_cost-same es v w h cs c b g.1)

pub IsDistance-by : (es : List (ℕ × ℕ)) (v w : ℕ → ℕ → ℕ) → ((a b : ℕ) → IsTrue (is_near es a b) → v a b ≡ w a b) → (a b k : ℕ) → IsDistance es v a b k → IsDistance es w a b k
IsDistance-by es v w h a b k d = record {
  walked = (d.walked.0, sym (walk_cost-same es v w h d.walked.0 a b d.walked.2) ∙ d.walked.1, d.walked.2);
  least = λ cs g. omega (arith, d.least cs g, walk_cost-same es v w h cs a b g);
}

pub IsDistance-symmetric : (es : List (ℕ × ℕ)) (w : ℕ → ℕ → ℕ) → IsSymmetric es w → (a b k : ℕ) → IsDistance es w a b k → IsDistance es w b a k
IsDistance-symmetric es w m a b k h =
    let r = IsWalk-back es w m h.walked.0 a b h.walked.2 in
    record {
      walked = (r.0, r.1 ∙ h.walked.1, r.2);
      least = λ cs g. let q = IsWalk-back es w m cs b a g in omega (arith, h.least q.0 q.2, q.1);
    }

pub IsDistance-same : (es : List (ℕ × ℕ)) (w : ℕ → ℕ → ℕ) (a b k m : ℕ) → IsDistance es w a b k → IsDistance es w a b m → k ≡ m
IsDistance-same es w a b k m h g =
    omega (arith, h.least g.walked.0 g.walked.2, g.least h.walked.0 h.walked.2, h.walked.1, g.walked.1)

-- a qubit is at distance 0 from itself alone
pub IsDistance-self : (es : List (ℕ × ℕ)) (w : ℕ → ℕ → ℕ) (a : ℕ) → IsDistance es w a a 0
IsDistance-self es w a = record { walked = ([], refl, refl); least = λ cs g. omega arith }

pub IsDistance-zero : (es : List (ℕ × ℕ)) (w : ℕ → ℕ → ℕ) (a b : ℕ) → IsPositive es w → IsDistance es w a b 0 → a ≡ b
IsDistance-zero es w a b p h = go h.walked.0 h.walked.1 h.walked.2
  where
    go : (cs : List ℕ) → walk_cost w a cs ≡ 0 → IsWalk es a cs b → a ≡ b
    go [] e g = g
    go (c ∷ cs) e g = absurd (omega (arith, p a c g.0, e))

-- qubits at distance 1 are near
pub IsDistance-one : (es : List (ℕ × ℕ)) (w : ℕ → ℕ → ℕ) (a b : ℕ) → IsPositive es w → IsDistance es w a b 1 → IsTrue (is_near es a b)
IsDistance-one es w a b p h = go h.walked.0 h.walked.1 h.walked.2
  where
    go : (cs : List ℕ) → walk_cost w a cs ≡ 1 → IsWalk es a cs b → IsTrue (is_near es a b)
    go [] e g = absurd (omega (arith, e))
    go (c ∷ []) e g = subst (λ x. IsTrue (is_near es a x)) g.1 g.0
    go (c ∷ f ∷ cs) e g = absurd (omega (arith, p a c g.0, p c f g.1.0, e))
