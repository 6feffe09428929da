-- Measures of walks.
--   distance-measure      the distance is a measure, at most the diameter
--   nearer_ones, count-measure   so is the number of qubits that are nearer to the target, at most N
use Rattle.std.proofs.Common.{◌≡◌, ℕ, zero, suc, ◌+◌, ◌<◌, ◌≤◌, Bool, true, false, cond, List, [], ◌∷◌, length, get_or, nat_lt, refl, ◌∙◌, ap, arith, zero-add}
use Rattle.std.specs.List.{range_with_len}
use Rattle.std.proofs.lemmas.Bool.Decides.{nat_tests}
use Rattle.std.proofs.lemmas.List.FromFn.{get_or-range_with_len, length-range_with_len}
use Rattle.coupling_map.specs.Coupling.{Coupling, cost, dist, IsToward}
use Rattle.coupling_map.specs.Walks.{IsDiameter, IsDistance}
use Rattle.sabre_route.specs.Measures.{IsMeasure}
use Rattle.sabre_route.specs.Scores.{IsMetric}

-- a step toward a qubit comes nearer by what it costs
dist-toward : (d : Coupling) (a b c : ℕ) → IsMetric d → a < d.size → b < d.size → IsToward d.edges (cost d) a b c → cost d a c + dist d c b ≡ dist d a b
dist-toward d a b c m la lb h =
    let lc = (m.near a c h.near).1 in
    omega (arith, same d.edges c b h.nearer.0 (dist d c b) h.nearer.1 (m.exact c b lc lb), same d.edges a b (cost d a c + h.nearer.0) (dist d a b) h.nearer.2 (m.exact a b la lb))
  where
    same : (es : List (ℕ × ℕ)) (x y j k : ℕ) → IsDistance es (cost d) x y j → IsDistance es (cost d) x y k → j ≡ k
    same es x y j k p q = omega (arith, p.least q.walked.0 q.walked.2, q.least p.walked.0 p.walked.2, p.walked.1, q.walked.1)

dist-falls : (d : Coupling) (a b c : ℕ) → IsMetric d → a < d.size → b < d.size → IsToward d.edges (cost d) a b c → dist d c b + 1 ≤ dist d a b
dist-falls d a b c m la lb h = omega (arith, dist-toward d a b c m la lb h, (m.costs a c).0)

pub distance-measure : (d : Coupling) (k : ℕ) → IsMetric d → IsDiameter d.size d.edges (cost d) k → IsMeasure d (dist d) k
distance-measure d k m h = record {
  short = λ a b la lb. h.most a b (dist d a b) la lb (m.exact a b la lb);
  falls = λ a b c la lb t. dist-falls d a b c m la lb t;
}

-- ---- how many pass a test
abbrev pub counted : (ℕ → Bool) → List ℕ → ℕ
counted p [] = 0
counted p (x ∷ xs) = cond (p x) 1 0 + counted p xs

one_at_most : (t : Bool) → cond t 1 0 ≤ 1
one_at_most true = omega arith
one_at_most false = omega arith

counted-few : (p : ℕ → Bool) (xs : List ℕ) → counted p xs ≤ length xs
counted-few p [] = omega arith
counted-few p (x ∷ xs) = omega (arith, one_at_most (p x), counted-few p xs)

weaker : (s t : Bool) → (s ≡ true → t ≡ true) → cond s 1 0 ≤ cond t 1 0
weaker false t h = omega arith
weaker true true h = omega arith
weaker true false h = absurd (let e = h refl in cc)

counted-weaker : (p q : ℕ → Bool) (xs : List ℕ) → ((x : ℕ) → p x ≡ true → q x ≡ true) → counted p xs ≤ counted q xs
counted-weaker p q [] h = omega arith
counted-weaker p q (x ∷ xs) h = omega (arith, weaker (p x) (q x) (h x), counted-weaker p q xs h)

counted-less : (p q : ℕ → Bool) (xs : List ℕ) (i : ℕ) → ((x : ℕ) → p x ≡ true → q x ≡ true) → i < length xs → p (get_or xs i 0) ≡ false → q (get_or xs i 0) ≡ true → counted p xs + 1 ≤ counted q xs
counted-less p q [] i h l e f = absurd (omega arith)
counted-less p q (x ∷ xs) zero h l e f =
    let off : ◌≡◌ {A = ℕ} (cond (p x) 1 0) 0 = ap (λ (t : Bool). cond t 1 0) e in
    let on : ◌≡◌ {A = ℕ} (cond (q x) 1 0) 1 = ap (λ (t : Bool). cond t 1 0) f in
    omega (arith, off, on, counted-weaker p q xs h)
counted-less p q (x ∷ xs) (suc i) h l e f = omega (arith, weaker (p x) (q x) (h x), counted-less p q xs i h (omega arith) e f)

-- ---- the qubits that are nearer to b than a
pub nearer_ones : Coupling → ℕ → ℕ → ℕ
nearer_ones d a b = counted (λ x. nat_lt (dist d x b) (dist d a b)) (range_with_len 0 d.size)

pub count-measure : (d : Coupling) → IsMetric d → IsMeasure d (nearer_ones d) d.size
unfolding nearer_ones
count-measure d m = record {
  short = λ a b la lb. omega (arith, counted-few (λ x. nat_lt (dist d x b) (dist d a b)) (range_with_len 0 d.size), length-range_with_len 0 d.size);
  falls = λ a b c la lb t.
      let lc = (m.near a c t.near).1 in
      let less = dist-falls d a b c m la lb t in
      let at : get_or (range_with_len 0 d.size) c 0 ≡ c = get_or-range_with_len 0 d.size c 0 lc ∙ zero-add c in
      counted-less (λ x. nat_lt (dist d x b) (dist d c b)) (λ x. nat_lt (dist d x b) (dist d a b)) (range_with_len 0 d.size) c
      (λ x e. further (dist d x b) (dist d c b) (dist d a b) e less) (omega (arith, lc, length-range_with_len 0 d.size))
      (ap (λ x. nat_lt (dist d x b) (dist d c b)) at ∙ itself (dist d c b)) (ap (λ x. nat_lt (dist d x b) (dist d a b)) at ∙ below (dist d c b) (dist d a b) less);
}
  where
    further : (x y z : ℕ) → nat_lt x y ≡ true → y + 1 ≤ z → nat_lt x z ≡ true
    further x y z e l = grind (arith, nat_tests)

    itself : (x : ℕ) → nat_lt x x ≡ false
    itself x = grind (arith, nat_tests)

    below : (x y : ℕ) → x + 1 ≤ y → nat_lt x y ≡ true
    below x y l = grind (arith, nat_tests)
