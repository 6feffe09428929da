-- CNOTs met along dependences: there is one list of them.
--   before-apart, before-never     of two, one is before the other, and not both
--   met-early          the time of a release is at most the number
--   released-carried   what is released by one list is by another with the same first entries
--   behind-some        one of those behind
--   behind-more        a longer list with one more behind
--   met-once           two such lists are the same
--   along-once, extended-once     so there is one extended set
use Rattle.std.proofs.Common.{◌≡◌, ℕ, zero, suc, ◌<◌, ◌≤◌, ◌⊎◌, inl, inr, Bool, true, false, cond, List, [], ◌∷◌, ◌++◌, length, map, nat_lt, refl, sym, ◌∙◌, ap, subst, arith}
use Rattle.std.proofs.lemmas.Bool.{cases_eq, cases_lt}
use Rattle.std.proofs.lemmas.Bool.Decides.{nat_tests}
use Rattle.std.proofs.lemmas.List.{get_or_default, same_lists}
use Rattle.circuit_list.specs.declared.Gate.{Gate}
use Rattle.sabre_route.specs.Dependences.{behind, release_at, AreMet, IsAlong, IsBefore, IsMetAt, IsReleasedAt, IsUnbound, WaitsFor}
use Rattle.sabre_route.specs.Ahead.{cx_only, Ahead, Along, InOrder, IsExtended}
use Rattle.sabre_route.specs.Search.{pairs_at}

-- ---- the order
pub before-never : (s a t b : ℕ) → IsBefore (s, a) (t, b) → IsBefore (t, b) (s, a) → ⊥
before-never s a t b (inl lt) (inl gt) = omega arith
before-never s a t b (inl lt) (inr e) = omega (arith, e.0)
before-never s a t b (inr e) (inl gt) = omega (arith, e.0)
before-never s a t b (inr e) (inr f) = omega (arith, e.1, f.1)

before-same : (p q : ℕ × ℕ) → p ≡ q → IsBefore p q → ⊥
before-same p q e h = let k = subst (λ (r : ℕ × ℕ). IsBefore r q) e h in before-never q.0 q.1 q.0 q.1 k k

-- ---- the time of a release is at most the number
early : (waits : ℕ → ℕ → Type 0) (unbound : ℕ → Type 0) (met : List (ℕ × ℕ)) → ((b a : ℕ) → waits b a → a < b)
    → ((i j : ℕ) → i < j → j < length met → IsBefore (release_at met i) (release_at met j)) → ((i : ℕ) → i < length met → IsReleasedAt waits unbound met (release_at met i).0 (release_at met i).1)
    → (n i : ℕ) → ((k : ℕ) → k < length met → (release_at met k).1 < n → (release_at met k).0 ≤ k) → i < length met → (release_at met i).1 ≤ n → (release_at met i).0 ≤ i
early waits unbound met less ordered released n i sooner lt le = go (release_at met i).0 refl (released i lt)
  where
    apart : (k : ℕ) → k < length met → (release_at met k).0 ≤ k → (release_at met i).0 ≡ suc k → IsBefore (release_at met i) (release_at met k) → (release_at met i).0 ≤ i
    apart k within low e (inl f) = absurd (omega (arith, e, low, f))
    apart k within low e (inr f) = absurd (omega (arith, e, low, f.0))

    other : (k : ℕ) → k < length met → (release_at met k).0 ≤ k → (release_at met i).0 ≡ suc k → i ≤ k → (i ≡ k) ⊎ (i ≡ k → ⊥) → (release_at met i).0 ≤ i
    other k within low e ge (inl f) = absurd (omega (arith, e, low, ap (λ (j : ℕ). (release_at met j).0) f))
    other k within low e ge (inr ne) = apart k within low e (ordered i k (omega arith) within)

    later : (k : ℕ) → k < length met → (release_at met k).0 ≤ k → (release_at met i).0 ≡ suc k → (k < i) ⊎ (i ≤ k) → (release_at met i).0 ≤ i
    later k within low e (inl lt) = omega (arith, e)
    later k within low e (inr ge) = other k within low e ge (cases_eq i k)

    go : (t : ℕ) → (release_at met i).0 ≡ t → IsReleasedAt waits unbound met t (release_at met i).1 → (release_at met i).0 ≤ i
    go zero e r = omega (arith, e)
    go (suc k) e r = later k r.0.2.0 (sooner k r.0.2.0 (omega (arith, le, less _ _ r.0.1, r.0.2.1))) e (cases_lt k i)

pub met-early : (waits : ℕ → ℕ → Type 0) (unbound : ℕ → Type 0) (met : List (ℕ × ℕ)) → ((b a : ℕ) → waits b a → a < b)
    → ((i j : ℕ) → i < j → j < length met → IsBefore (release_at met i) (release_at met j)) → ((i : ℕ) → i < length met → IsReleasedAt waits unbound met (release_at met i).0 (release_at met i).1)
    → (n i : ℕ) → i < length met → (release_at met i).1 ≤ n → (release_at met i).0 ≤ i
met-early waits unbound met less ordered released zero i lt le = early waits unbound met less ordered released 0 i (λ k within low. absurd (omega (arith, low))) lt le
met-early waits unbound met less ordered released (suc n) i lt le = early waits unbound met less ordered released (suc n) i (λ k within low. met-early waits unbound met less ordered released n k within (omega (arith, low))) lt le

-- ---- lists with the same first entries
abbrev pub AreSame : List (ℕ × ℕ) → List (ℕ × ℕ) → ℕ → Type 0
AreSame old new n = (i : ℕ) → i < n → i < length old → (i < length new) × (release_at new i ≡ release_at old i)

pub released-carried : (waits : ℕ → ℕ → Type 0) (unbound : ℕ → Type 0) (old new : List (ℕ × ℕ)) (n t b : ℕ) → AreSame old new n → t ≤ n → IsReleasedAt waits unbound old t b → IsReleasedAt waits unbound new t b
released-carried waits unbound old new n zero b same le h = h
released-carried waits unbound old new n (suc k) b same le h = (
  (h.0.0, h.0.1, carried k h.0.0 (omega arith) h.0.2),
  λ a w. let r = h.1 a w in (r.0, r.1, carried r.0 a (omega (arith, r.1)) r.2),
)
  where
    carried : (i a : ℕ) → i < n → IsMetAt old i a → IsMetAt new i a
    carried i a lt x = let s = same i lt x.0 in (s.0, ap (λ (p : ℕ × ℕ). p.1) s.1 ∙ x.1)

-- ---- those behind
behind-cons : (p : ℕ × ℕ) (met : List (ℕ × ℕ)) → length (behind met) ≤ length (behind (p ∷ met))
behind-cons p met = go (nat_lt 0 p.0)
  where
    go : (b : Bool) → length (behind met) ≤ length (cond b (p ∷ behind met) (behind met))
    go true = omega arith
    go false = omega arith

behind-here : (p : ℕ × ℕ) (met : List (ℕ × ℕ)) → 0 < p.0 → length (behind (p ∷ met)) ≡ suc (length (behind met))
behind-here p met lt =
    let e : nat_lt 0 p.0 ≡ true = grind (arith, nat_tests) in
    ap (λ (b : Bool). length (cond b (p ∷ behind met) (behind met))) e

pub behind-some : (met : List (ℕ × ℕ)) → 0 < length (behind met) → (i : ℕ) × (i < length met) × (0 < (release_at met i).0)
behind-some [] lt = absurd (omega arith)
behind-some (p ∷ met) lt = go (cases_lt 0 p.0) (behind-some met)
  where
    go : (0 < p.0) ⊎ (p.0 ≤ 0) → (0 < length (behind met) → (i : ℕ) × (i < length met) × (0 < (release_at met i).0)) → (i : ℕ) × (i < length (p ∷ met)) × (0 < (release_at (p ∷ met) i).0)
    go (inl here) more = (0, omega arith, here)
    go (inr none) more =
        let e : nat_lt 0 p.0 ≡ false = grind (arith, nat_tests) in
        let same : length (behind (p ∷ met)) ≡ length (behind met) = ap (λ (b : Bool). length (cond b (p ∷ behind met) (behind met))) e in
        let r = more (omega (arith, lt, same)) in
        (suc r.0, omega (arith, r.1), r.2)

behind-there : (met : List (ℕ × ℕ)) (i : ℕ) → i < length met → 0 < (release_at met i).0 → 0 < length (behind met)
behind-there [] i lt h = absurd (omega arith)
behind-there (p ∷ met) zero lt h = omega (arith, behind-here p met h)
behind-there (p ∷ met) (suc i) lt h = omega (arith, behind-cons p met, behind-there met i (omega arith) h)

pub behind-more : (old new : List (ℕ × ℕ)) (i : ℕ) → AreSame old new (length old) → length old ≤ i → i < length new → 0 < (release_at new i).0 → length (behind old) < length (behind new)
behind-more [] new i same le lt h = behind-there new i lt h
behind-more (p ∷ old) [] i same le lt h = absurd (omega arith)
behind-more (p ∷ old) (q ∷ new) zero same le lt h = absurd (omega arith)
behind-more (p ∷ old) (q ∷ new) (suc i) same le lt h =
    let more = behind-more old new i (λ j below within. let s = same (suc j) (omega arith) (omega arith) in (omega (arith, s.0), s.1)) (omega arith) (omega arith) h in
    go (nat_lt 0 p.0) (ap (λ (x : ℕ × ℕ). nat_lt 0 x.0) (same 0 (omega arith) (omega arith)).1) more
  where
    go : (b : Bool) → nat_lt 0 q.0 ≡ b → length (behind old) < length (behind new) → length (cond b (p ∷ behind old) (behind old)) < length (behind (q ∷ new))
    go true e more = let s = ap (λ (b : Bool). length (cond b (q ∷ behind new) (behind new))) e in omega (arith, s, more)
    go false e more = let s = ap (λ (b : Bool). length (cond b (q ∷ behind new) (behind new))) e in omega (arith, s, more)

-- ---- one list
record AreTwo (most : ℕ) (waits : ℕ → ℕ → Type 0) (unbound : ℕ → Type 0) (old new : List (ℕ × ℕ)) (i : ℕ) : Type 0 where
  some : 0 < most
  less : (b a : ℕ) → waits b a → a < b
  old_met : AreMet most waits unbound old
  new_met : AreMet most waits unbound new
  onward : AreSame old new i
  back : AreSame new old i

-- an release_at of the new list at number i isn't before the old one's
not_before : (most : ℕ) (waits : ℕ → ℕ → Type 0) (unbound : ℕ → Type 0) (old new : List (ℕ × ℕ)) (i : ℕ) → AreTwo most waits unbound old new i → i < length old → i < length new → IsBefore (release_at new i) (release_at old i) → ⊥
not_before most waits unbound old new i h in_old in_new before = go (h.old_met.others t b (released-carried waits unbound new old i t b h.back (met-early waits unbound new h.less h.new_met.ordered h.new_met.released b i in_new (omega arith)) (h.new_met.released i in_new)))
  where
    t : ℕ
    t = (release_at new i).0

    b : ℕ
    b = (release_at new i).1

    go : ((j : ℕ) × (j < length old) × (release_at old j ≡ (t, b))) ⊎ ((most ≤ length (behind old)) × ((j : ℕ) → j < length old → IsBefore (release_at old j) (t, b))) → ⊥
    go (inr full) = before-never _ _ _ _ before (full.1 i in_old)
    go (inl (j, within, is)) = at (cases_lt j i) (cases_eq j i)
      where
        at : (j < i) ⊎ (i ≤ j) → (j ≡ i) ⊎ (j ≡ i → ⊥) → ⊥
        at (inl lt) e = let s = h.onward j lt within in before-same (release_at new j) (release_at new i) (s.1 ∙ is) (h.new_met.ordered j i lt in_new)
        at (inr le) (inl e) = before-same (release_at new i) (release_at old i) (sym is ∙ ap (release_at old) e) before
        at (inr le) (inr ne) = before-never _ _ _ _ before (subst (λ (p : ℕ × ℕ). IsBefore (release_at old i) p) is (h.old_met.ordered i j (omega arith) within))

half : (most : ℕ) (waits : ℕ → ℕ → Type 0) (unbound : ℕ → Type 0) (old new : List (ℕ × ℕ)) (i : ℕ) → AreTwo most waits unbound old new i → i < length old → (i < length new) × (release_at new i ≡ release_at old i)
half most waits unbound old new i h lt = go (h.new_met.others t b (released-carried waits unbound old new i t b h.onward (met-early waits unbound old h.less h.old_met.ordered h.old_met.released b i lt (omega arith)) (h.old_met.released i lt)))
  where
    t : ℕ
    t = (release_at old i).0

    b : ℕ
    b = (release_at old i).1

    go : ((j : ℕ) × (j < length new) × (release_at new j ≡ (t, b))) ⊎ ((most ≤ length (behind new)) × ((j : ℕ) → j < length new → IsBefore (release_at new j) (t, b))) → (i < length new) × (release_at new i ≡ release_at old i)
    go (inl (j, within, is)) = at (cases_lt j i) (cases_eq j i)
      where
        at : (j < i) ⊎ (i ≤ j) → (j ≡ i) ⊎ (j ≡ i → ⊥) → (i < length new) × (release_at new i ≡ release_at old i)
        at (inl less) e = let s = h.back j less within in absurd (before-same (release_at old j) (release_at old i) (s.1 ∙ is) (h.old_met.ordered j i less lt))
        at (inr le) (inl e) = (subst (λ (k : ℕ). k < length new) e within, ap (release_at new) (sym e) ∙ is)
        at (inr le) (inr ne) =
            let in_new : i < length new = omega (arith, within) in
            absurd (not_before most waits unbound old new i h lt in_new (subst (λ (p : ℕ × ℕ). IsBefore (release_at new i) p) is (h.new_met.ordered i j (omega arith) within)))
    go (inr (full, all)) = at (cases_lt i (length new))
      where
        at : (i < length new) ⊎ (length new ≤ i) → (i < length new) × (release_at new i ≡ release_at old i)
        at (inl in_new) = absurd (not_before most waits unbound old new i h lt in_new (all i in_new))
        at (inr le) = absurd (time (cases_lt 0 t))
          where
            time : (0 < t) ⊎ (t ≤ 0) → ⊥
            time (inl some) =
                let more = behind-more new old i (λ j below within. h.back j (omega (arith, below)) within) le lt some in
                omega (arith, more, full, h.old_met.few)
            time (inr none) =
                let one = behind-some new (omega (arith, full, h.some)) in
                first (all one.0 one.1)
              where
                first : IsBefore (release_at new (behind-some new (omega (arith, full, h.some))).0) (t, b) → ⊥
                first (inl f) = omega (arith, f, none)
                first (inr f) = omega (arith, f.0, none, (behind-some new (omega (arith, full, h.some))).2)

both : (most : ℕ) (waits : ℕ → ℕ → Type 0) (unbound : ℕ → Type 0) (old new : List (ℕ × ℕ)) → 0 < most → ((b a : ℕ) → waits b a → a < b) → AreMet most waits unbound old → AreMet most waits unbound new → (n : ℕ) → AreSame old new n × AreSame new old n
both most waits unbound old new some less h k zero = ((λ i lt. absurd (omega arith)), (λ i lt. absurd (omega arith)))
both most waits unbound old new some less h k (suc n) =
    let r = both most waits unbound old new some less h k n in
    let there = half most waits unbound old new n (record { some = some; less = less; old_met = h; new_met = k; onward = r.0; back = r.1 }) in
    let here = half most waits unbound new old n (record { some = some; less = less; old_met = k; new_met = h; onward = r.1; back = r.0 }) in
    (more old new n r.0 there, more new old n r.1 here)
  where
    more : (xs ys : List (ℕ × ℕ)) (n : ℕ) → AreSame xs ys n → (n < length xs → (n < length ys) × (release_at ys n ≡ release_at xs n)) → AreSame xs ys (suc n)
    more xs ys n same last i lt within = at (cases_eq i n)
      where
        at : (i ≡ n) ⊎ (i ≡ n → ⊥) → (i < length ys) × (release_at ys i ≡ release_at xs i)
        at (inl e) = subst (λ (k : ℕ). (k < length ys) × (release_at ys k ≡ release_at xs k)) (sym e) (last (subst (λ (k : ℕ). k < length xs) e within))
        at (inr ne) = same i (omega arith) within

same_length : (old new : List (ℕ × ℕ)) → AreSame old new (length old) → length old ≤ length new
same_length old new same = go (cases_lt (length new) (length old))
  where
    go : (length new < length old) ⊎ (length old ≤ length new) → length old ≤ length new
    go (inl lt) = absurd (omega (arith, (same (length new) lt lt).0))
    go (inr le) = le

pub met-once : (most : ℕ) (waits : ℕ → ℕ → Type 0) (unbound : ℕ → Type 0) (old new : List (ℕ × ℕ)) → 0 < most → ((b a : ℕ) → waits b a → a < b) → AreMet most waits unbound old → AreMet most waits unbound new → old ≡ new
met-once most waits unbound old new some less h k =
    same_lists old new (omega (arith, same_length old new (both most waits unbound old new some less h k (length old)).0, same_length new old (both most waits unbound old new some less h k (length new)).1))
    (λ i d lt.
    let s = (both most waits unbound old new some less h k (length old)).0 i lt lt in
    get_or_default old i d (0, 0) lt ∙ sym s.1 ∙ get_or_default new i (0, 0) d s.0)

pub along-once : (most : ℕ) (gs : List Gate) (m : ℕ) (es fs : List (ℕ × ℕ)) → 0 < most → IsAlong most gs m es → IsAlong most gs m fs → es ≡ fs
along-once most gs m es fs some (old, h, e) (new, k, f) =
    e ∙ ap (λ (met : List (ℕ × ℕ)). pairs_at gs (map (λ p. p.1) (behind met))) (met-once most (WaitsFor gs) (IsUnbound gs m) old new some (λ b a w. w.earlier) h k) ∙ sym f

pub extended-once : (ahead : Ahead) (gs : List Gate) (es fs : List (ℕ × ℕ)) → IsExtended ahead gs es → IsExtended ahead gs fs → es ≡ fs
extended-once InOrder gs es fs h k = h ∙ sym k
extended-once (Along following) gs es fs h k = along-once 20 (cx_only (gs ++ following)) (length (cx_only gs)) es fs (omega arith) h k
