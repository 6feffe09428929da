-- Gates met along dependences, one by one, and under other names of their places.
--   walked-met         one more is met;  walked-past: none is released up to a later time and place
--   walked-done        none is left, or enough are behind
--   released-once      a gate is released at one time;  numbers-apart: so it has one number
--   IsRenaming d r waits unbound to_wait to_unbound     the places of which d holds have other names r, in the same order
--   met-renamed        those met, by their new names
--   places-renamed     .. and those behind
use Rattle.std.proofs.Common.{◌≡◌, ℕ, zero, suc, ◌<◌, ◌≤◌, ◌⊎◌, inl, inr, Bool, true, false, cond, List, [], ◌∷◌, ◌++◌, length, map, nat_lt, refl, sym, ◌∙◌, ap, subst, arith}
use Rattle.std.proofs.lemmas.Bool.{cases_eq, cases_lt}
use Rattle.std.proofs.lemmas.List.{get_or_append_left, get_or_push, get_or-map, length-append}
use Rattle.sabre_route.specs.Dependences.{behind, release_at, AreMet, IsBefore, IsMetAt, IsReleasedAt}
use Rattle.sabre_route.specs.Looking.{IsMetBefore}
use Rattle.sabre_route.proofs.DependenceLaws.{released-carried}

-- ---- the order
pub before-trans : (p q r : ℕ × ℕ) → IsBefore p q → IsBefore q r → IsBefore p r
before-trans p q r (inl f) (inl g) = inl (omega arith)
before-trans p q r (inl f) (inr g) = inl (omega (arith, g.0))
before-trans p q r (inr f) (inl g) = inl (omega (arith, f.0))
before-trans p q r (inr f) (inr g) = inr (f.0 ∙ g.0, omega (arith, f.1, g.1))

pub before-cases : (s a t b : ℕ) → IsBefore (s, a) (t, b) ⊎ (IsBefore (s, a) (t, b) → ⊥)
before-cases s a t b = go (cases_lt s t) (cases_eq s t) (cases_lt a b)
  where
    go : (s < t) ⊎ (t ≤ s) → (s ≡ t) ⊎ (s ≡ t → ⊥) → (a < b) ⊎ (b ≤ a) → IsBefore (s, a) (t, b) ⊎ (IsBefore (s, a) (t, b) → ⊥)
    go (inl lt) e c = inl (inl lt)
    go (inr le) (inr ne) c = inr never
      where
        never : IsBefore (s, a) (t, b) → ⊥
        never (inl f) = omega (arith, f)
        never (inr f) = ne f.0
    go (inr le) (inl e) (inl lt) = inl (inr (e, lt))
    go (inr le) (inl e) (inr ge) = inr never
      where
        never : IsBefore (s, a) (t, b) → ⊥
        never (inl f) = omega (arith, f)
        never (inr f) = omega (arith, f.1)

-- what isn't after is before or the same, so what is before the one is before the other
pub before-onward : (p : ℕ × ℕ) (t b s a : ℕ) → IsBefore p (t, b) → (IsBefore (s, a) (t, b) → ⊥) → IsBefore p (s, a)
before-onward p t b s a h never = go (cases_lt s t) (cases_eq s t) h
  where
    place : s ≡ t → b ≤ a
    place e = at (cases_lt a b)
      where
        at : (a < b) ⊎ (b ≤ a) → b ≤ a
        at (inl lt) = absurd (never (inr (e, lt)))
        at (inr le) = le

    go : (s < t) ⊎ (t ≤ s) → (s ≡ t) ⊎ (s ≡ t → ⊥) → IsBefore p (t, b) → IsBefore p (s, a)
    go (inl lt) e h = absurd (never (inl lt))
    go (inr le) e (inl f) = inl (omega arith)
    go (inr le) (inl e) (inr f) = inr (f.0 ∙ sym e, omega (arith, f.1, place e))
    go (inr le) (inr ne) (inr f) = inl (omega (arith, f.0, ne))

-- ---- one by one
pub walked-met : (waits : ℕ → ℕ → Type 0) (unbound : ℕ → Type 0) (met : List (ℕ × ℕ)) (time place : ℕ) → time ≤ length met → IsMetBefore waits unbound met time place → IsReleasedAt waits unbound met time place
    → IsMetBefore waits unbound (met ++ (time, place) ∷ []) time (suc place)
walked-met waits unbound met time place le h now = record {
  ordered = λ i j lt within. order i j lt (cases_lt j (length met)) within;
  earlier = λ i within. one i (cases_lt i (length met)) within;
  released = λ i within. there i (cases_lt i (length met)) within;
  all = λ t b before r. found t b before (back t b (time-le t b before) r) (before-cases t b time place);
}
  where
    more : List (ℕ × ℕ)
    more = met ++ (time, place) ∷ []

    long : length more ≡ suc (length met)
    long = omega (arith, length-append met ((time, place) ∷ []))

    old : (i : ℕ) → i < length met → release_at more i ≡ release_at met i
    old i lt = get_or_append_left met ((time, place) ∷ []) (0, 0) i lt

    new : (i : ℕ) → length met ≡ i → release_at more i ≡ (time, place)
    new i e = get_or_push met (time, place) (0, 0) i e

    last : (i : ℕ) → length met ≤ i → i < length more → length met ≡ i
    last i le within = omega (arith, le, within, long)

    order : (i j : ℕ) → i < j → (j < length met) ⊎ (length met ≤ j) → j < length more → IsBefore (release_at more i) (release_at more j)
    order i j lt (inl low) within = subst (λ (p : ℕ × ℕ). IsBefore p (release_at more j)) (sym (old i (omega arith))) (subst (λ (p : ℕ × ℕ). IsBefore (release_at met i) p) (sym (old j low)) (h.ordered i j lt low))
    order i j lt (inr le) within =
        let e = last j le within in
        subst (λ (p : ℕ × ℕ). IsBefore p (release_at more j)) (sym (old i (omega (arith, e)))) (subst (λ (p : ℕ × ℕ). IsBefore (release_at met i) p) (sym (new j e)) (h.earlier i (omega (arith, e))))

    next : IsBefore (time, place) (time, suc place)
    next = inr (refl, omega arith)

    one : (i : ℕ) → (i < length met) ⊎ (length met ≤ i) → i < length more → IsBefore (release_at more i) (time, suc place)
    one i (inl low) within = subst (λ (p : ℕ × ℕ). IsBefore p (time, suc place)) (sym (old i low)) (before-trans (release_at met i) (time, place) (time, suc place) (h.earlier i low) next)
    one i (inr le) within = subst (λ (p : ℕ × ℕ). IsBefore p (time, suc place)) (sym (new i (last i le within))) next

    onward : (t b : ℕ) → IsReleasedAt waits unbound met t b → IsReleasedAt waits unbound more t b
    onward t b r = released-carried waits unbound met more t t b (λ i lt within. (omega (arith, within, long), old i within)) (omega arith) r

    back : (t b : ℕ) → t ≤ time → IsReleasedAt waits unbound more t b → IsReleasedAt waits unbound met t b
    back t b low r = released-carried waits unbound more met t t b (λ i lt within. (omega (arith, lt, low, le), sym (old i (omega (arith, lt, low, le))))) (omega arith) r

    there : (i : ℕ) → (i < length met) ⊎ (length met ≤ i) → i < length more → IsReleasedAt waits unbound more (release_at more i).0 (release_at more i).1
    there i (inl low) within = subst (λ (p : ℕ × ℕ). IsReleasedAt waits unbound more p.0 p.1) (sym (old i low)) (onward (release_at met i).0 (release_at met i).1 (h.released i low))
    there i (inr le) within = subst (λ (p : ℕ × ℕ). IsReleasedAt waits unbound more p.0 p.1) (sym (new i (last i le within))) (onward time place now)

    time-le : (t b : ℕ) → IsBefore (t, b) (time, suc place) → t ≤ time
    time-le t b (inl f) = omega arith
    time-le t b (inr f) = omega (arith, f.0)

    same : (t b : ℕ) → IsBefore (t, b) (time, suc place) → (IsBefore (t, b) (time, place) → ⊥) → (time ≡ t) × (place ≡ b)
    same t b (inl f) never = absurd (never (inl f))
    same t b (inr f) never = (sym f.0, at (cases_lt b place))
      where
        at : (b < place) ⊎ (place ≤ b) → place ≡ b
        at (inl lt) = absurd (never (inr (f.0, lt)))
        at (inr le) = omega (arith, f.1)

    found : (t b : ℕ) → IsBefore (t, b) (time, suc place) → IsReleasedAt waits unbound met t b → IsBefore (t, b) (time, place) ⊎ (IsBefore (t, b) (time, place) → ⊥)
        → (i : ℕ) × (i < length more) × (release_at more i ≡ (t, b))
    found t b before r (inl sooner) = let f = h.all t b sooner r in (f.0, omega (arith, f.1, long), old f.0 f.1 ∙ f.2)
    found t b before r (inr never) = let e = same t b before never in (length met, omega (arith, long), new (length met) refl ∙ (λ z. (e.0 z, e.1 z)))

pub walked-past : (waits : ℕ → ℕ → Type 0) (unbound : ℕ → Type 0) (met : List (ℕ × ℕ)) (time place t b : ℕ) → IsMetBefore waits unbound met time place → (IsBefore (t, b) (time, place) → ⊥)
    → ((s a : ℕ) → (IsBefore (s, a) (time, place) → ⊥) → IsBefore (s, a) (t, b) → IsReleasedAt waits unbound met s a → ⊥) → IsMetBefore waits unbound met t b
walked-past waits unbound met time place t b h later none = record {
  ordered = h.ordered;
  earlier = λ i within. before-onward (release_at met i) time place t b (h.earlier i within) later;
  released = h.released;
  all = λ s a before r. found s a before r (before-cases s a time place);
}
  where
    found : (s a : ℕ) → IsBefore (s, a) (t, b) → IsReleasedAt waits unbound met s a → IsBefore (s, a) (time, place) ⊎ (IsBefore (s, a) (time, place) → ⊥) → (i : ℕ) × (i < length met) × (release_at met i ≡ (s, a))
    found s a before r (inl sooner) = h.all s a sooner r
    found s a before r (inr never) = absurd (none s a never before r)

pub walked-done : (most : ℕ) (waits : ℕ → ℕ → Type 0) (unbound : ℕ → Type 0) (met : List (ℕ × ℕ)) (time place : ℕ) → IsMetBefore waits unbound met time place → length (behind met) ≤ most
    → (most ≤ length (behind met)) ⊎ ((t b : ℕ) → (IsBefore (t, b) (time, place) → ⊥) → IsReleasedAt waits unbound met t b → ⊥) → AreMet most waits unbound met
walked-done most waits unbound met time place h few end = record {
  ordered = h.ordered;
  released = h.released;
  others = λ t b r. found t b r (before-cases t b time place) end;
  few = few;
}
  where
    found : (t b : ℕ) → IsReleasedAt waits unbound met t b → IsBefore (t, b) (time, place) ⊎ (IsBefore (t, b) (time, place) → ⊥)
        → (most ≤ length (behind met)) ⊎ ((t b : ℕ) → (IsBefore (t, b) (time, place) → ⊥) → IsReleasedAt waits unbound met t b → ⊥)
        → ((i : ℕ) × (i < length met) × (release_at met i ≡ (t, b))) ⊎ ((most ≤ length (behind met)) × ((i : ℕ) → i < length met → IsBefore (release_at met i) (t, b)))
    found t b r (inl sooner) end = inl (h.all t b sooner r)
    found t b r (inr never) (inl full) = inr (full, λ i within. before-onward (release_at met i) time place t b (h.earlier i within) never)
    found t b r (inr never) (inr none) = absurd (none t b never r)

-- ---- each is released once
released-less : (waits : ℕ → ℕ → Type 0) (unbound : ℕ → Type 0) (met : List (ℕ × ℕ)) → ((b a : ℕ) → unbound b → waits b a → ⊥)
    → ((i j : ℕ) → i < j → j < length met → IsBefore (release_at met i) (release_at met j)) → ((i : ℕ) → i < length met → IsReleasedAt waits unbound met (release_at met i).0 (release_at met i).1)
    → (n s t b : ℕ) → ((a p q : ℕ) → a < n → waits b a → IsReleasedAt waits unbound met p a → IsReleasedAt waits unbound met q a → p < q → ⊥) → ((a : ℕ) → waits b a → a < n)
    → IsReleasedAt waits unbound met s b → IsReleasedAt waits unbound met t b → s < t → ⊥
released-less waits unbound met free ordered released n s zero b more less h k lt = omega arith
released-less waits unbound met free ordered released n zero (suc k) b more less h l lt = free b l.0.0 h l.0.1
released-less waits unbound met free ordered released n (suc j) (suc k) b more less h l lt = go (h.1 l.0.0 l.0.1)
  where
    a : ℕ
    a = l.0.0

    go : (i : ℕ) × (i ≤ j) × IsMetAt met i a → ⊥
    go (i, le, (within, same)) = apart (ordered i k (omega arith) l.0.2.0)
      where
        first : IsReleasedAt waits unbound met (release_at met i).0 a
        first = subst (IsReleasedAt waits unbound met (release_at met i).0) same (released i within)

        second : IsReleasedAt waits unbound met (release_at met k).0 a
        second = subst (IsReleasedAt waits unbound met (release_at met k).0) l.0.2.1 (released k l.0.2.0)

        apart : IsBefore (release_at met i) (release_at met k) → ⊥
        apart (inl f) = more a (release_at met i).0 (release_at met k).0 (less a l.0.1) l.0.1 first second f
        apart (inr f) = omega (arith, f.1, same, l.0.2.1)

pub released-once : (waits : ℕ → ℕ → Type 0) (unbound : ℕ → Type 0) (met : List (ℕ × ℕ)) → ((b a : ℕ) → waits b a → a < b) → ((b a : ℕ) → unbound b → waits b a → ⊥)
    → ((i j : ℕ) → i < j → j < length met → IsBefore (release_at met i) (release_at met j)) → ((i : ℕ) → i < length met → IsReleasedAt waits unbound met (release_at met i).0 (release_at met i).1)
    → (n s t b : ℕ) → b ≤ n → IsReleasedAt waits unbound met s b → IsReleasedAt waits unbound met t b → s < t → ⊥
released-once waits unbound met less free ordered released zero s t b le h k lt =
    released-less waits unbound met free ordered released 0 s t b (λ a p q low. absurd (omega (arith, low))) (λ a w. omega (arith, less b a w, le)) h k lt
released-once waits unbound met less free ordered released (suc n) s t b le h k lt =
    released-less waits unbound met free ordered released (suc n) s t b (λ a p q low w. released-once waits unbound met less free ordered released n p q a (omega (arith, low))) (λ a w. omega (arith, less b a w, le)) h k lt

pub numbers-apart : (waits : ℕ → ℕ → Type 0) (unbound : ℕ → Type 0) (met : List (ℕ × ℕ)) (time place : ℕ) → ((b a : ℕ) → waits b a → a < b) → ((b a : ℕ) → unbound b → waits b a → ⊥)
    → IsMetBefore waits unbound met time place → (i j : ℕ) → i < j → j < length met → (release_at met i).1 ≡ (release_at met j).1 → ⊥
numbers-apart waits unbound met time place less free h i j lt within same = apart (h.ordered i j lt within)
  where
    b : ℕ
    b = (release_at met i).1

    apart : IsBefore (release_at met i) (release_at met j) → ⊥
    apart (inl f) =
        released-once waits unbound met less free h.ordered h.released b (release_at met i).0 (release_at met j).0 b (omega arith) (h.released i (omega arith))
        (subst (IsReleasedAt waits unbound met (release_at met j).0) (sym same) (h.released j within)) f
    apart (inr f) = omega (arith, f.1, same)

-- ---- other names
pub record IsRenaming (d : ℕ → Type 0) (r : ℕ → ℕ) (waits : ℕ → ℕ → Type 0) (unbound : ℕ → Type 0) (to_wait : ℕ → ℕ → Type 0) (to_unbound : ℕ → Type 0) : Type 0 where
  pub rises : (a b : ℕ) → d a → d b → a < b → r a < r b
  pub waiting : (b a : ℕ) → waits b a → d b × d a × to_wait (r b) (r a)
  pub waiting_back : (y x : ℕ) → to_wait y x → (b : ℕ) × (a : ℕ) × waits b a × (r b ≡ y) × (r a ≡ x)
  pub free : (b : ℕ) → unbound b → d b × to_unbound (r b)
  pub free_back : (y : ℕ) → to_unbound y → (b : ℕ) × unbound b × (r b ≡ y)

abbrev pub renamed : (ℕ → ℕ) → List (ℕ × ℕ) → List (ℕ × ℕ)
renamed r met = map (λ p. (p.0, r p.1)) met

length-renamed : (r : ℕ → ℕ) (met : List (ℕ × ℕ)) → length (renamed r met) ≡ length met
length-renamed r [] = refl
length-renamed r (p ∷ met) = ap suc (length-renamed r met)

names-once : (d : ℕ → Type 0) (r : ℕ → ℕ) (waits : ℕ → ℕ → Type 0) (unbound : ℕ → Type 0) (to_wait : ℕ → ℕ → Type 0) (to_unbound : ℕ → Type 0) → IsRenaming d r waits unbound to_wait to_unbound
    → (a b : ℕ) → d a → d b → r a ≡ r b → a ≡ b
names-once d r waits unbound to_wait to_unbound h a b da db e = go (cases_lt a b) (cases_lt b a)
  where
    go : (a < b) ⊎ (b ≤ a) → (b < a) ⊎ (a ≤ b) → a ≡ b
    go (inl lt) c = absurd (omega (arith, h.rises a b da db lt, e))
    go (inr le) (inl lt) = absurd (omega (arith, h.rises b a db da lt, e))
    go (inr le) (inr ge) = omega arith

behind-renamed : (r : ℕ → ℕ) (met : List (ℕ × ℕ)) → behind (renamed r met) ≡ renamed r (behind met)
behind-renamed r [] = refl
behind-renamed r (p ∷ met) = (λ z. cond (nat_lt 0 p.0) ((p.0, r p.1) ∷ behind-renamed r met z) (behind-renamed r met z)) ∙ go (nat_lt 0 p.0)
  where
    go : (b : Bool) → cond b ((p.0, r p.1) ∷ renamed r (behind met)) (renamed r (behind met)) ≡ renamed r (cond b (p ∷ behind met) (behind met))
    go true = refl
    go false = refl

pub places-renamed : (r : ℕ → ℕ) (met : List (ℕ × ℕ)) → map (λ p. p.1) (behind (renamed r met)) ≡ map r (map (λ p. p.1) (behind met))
places-renamed r met = ap (λ (xs : List (ℕ × ℕ)). map (λ p. p.1) xs) (behind-renamed r met) ∙ go (behind met)
  where
    go : (xs : List (ℕ × ℕ)) → map (λ p. p.1) (renamed r xs) ≡ map r (map (λ p. p.1) xs)
    go [] = refl
    go (p ∷ xs) = ap (λ (ys : List ℕ). r p.1 ∷ ys) (go xs)

abbrev pub IsOther : ℕ → List (ℕ × ℕ) → ℕ → ℕ → Type 0
IsOther most met t y = ((i : ℕ) × (i < length met) × (release_at met i ≡ (t, y))) ⊎ ((most ≤ length (behind met)) × ((i : ℕ) → i < length met → IsBefore (release_at met i) (t, y)))

pub met-renamed : (most : ℕ) (d : ℕ → Type 0) (r : ℕ → ℕ) (waits : ℕ → ℕ → Type 0) (unbound : ℕ → Type 0) (to_wait : ℕ → ℕ → Type 0) (to_unbound : ℕ → Type 0) (met : List (ℕ × ℕ))
    → IsRenaming d r waits unbound to_wait to_unbound → AreMet most waits unbound met → AreMet most to_wait to_unbound (renamed r met)
met-renamed most d r waits unbound to_wait to_unbound met h m = record {
  ordered = λ i j lt within.
      let jn : j < length met = omega (arith, within, long) in
      subst (λ (p : ℕ × ℕ). IsBefore p (release_at new j)) (sym (at i (omega arith)))
      (subst (λ (p : ℕ × ℕ). IsBefore ((release_at met i).0, r (release_at met i).1) p) (sym (at j jn)) (moved (release_at met i) (release_at met j) (there i (omega arith)) (there j jn) (m.ordered i j lt jn)));
  released = λ i within.
      let n : i < length met = omega (arith, within, long) in
      subst (λ (p : ℕ × ℕ). IsReleasedAt to_wait to_unbound new p.0 p.1) (sym (at i n)) (onward (release_at met i).0 (release_at met i).1 (m.released i n));
  others = λ t y rel. others t y rel;
  few = omega (arith, ap length (behind-renamed r met), length-renamed r (behind met), m.few);
}
  where
    new : List (ℕ × ℕ)
    new = renamed r met

    long : length new ≡ length met
    long = length-renamed r met

    at : (i : ℕ) → i < length met → release_at new i ≡ ((release_at met i).0, r (release_at met i).1)
    at i lt = get_or-map (λ (p : ℕ × ℕ). (p.0, r p.1)) met i (0, 0) (0, 0) lt

    holds : (t b : ℕ) → IsReleasedAt waits unbound met t b → d b
    holds zero b f = (h.free b f).0
    holds (suc k) b f = (h.waiting b f.0.0 f.0.1).0

    there : (i : ℕ) → i < length met → d (release_at met i).1
    there i lt = holds (release_at met i).0 (release_at met i).1 (m.released i lt)

    moved : (p q : ℕ × ℕ) → d p.1 → d q.1 → IsBefore p q → IsBefore (p.0, r p.1) (q.0, r q.1)
    moved p q dp dq (inl f) = inl f
    moved p q dp dq (inr f) = inr (f.0, h.rises p.1 q.1 dp dq f.1)

    number : (k a : ℕ) → IsMetAt met k a → IsMetAt new k (r a)
    number k a f = (omega (arith, f.0, long), ap (λ (p : ℕ × ℕ). p.1) (at k f.0) ∙ ap r f.1)

    number_back : (k a : ℕ) → d a → IsMetAt new k (r a) → IsMetAt met k a
    number_back k a da f =
        let n : k < length met = omega (arith, f.0, long) in
        (n, names-once d r waits unbound to_wait to_unbound h (release_at met k).1 a (there k n) da (sym (ap (λ (p : ℕ × ℕ). p.1) (at k n)) ∙ f.1))

    onward : (t b : ℕ) → IsReleasedAt waits unbound met t b → IsReleasedAt to_wait to_unbound new t (r b)
    onward zero b f = (h.free b f).1
    onward (suc k) b f = (
      (r f.0.0, (h.waiting b f.0.0 f.0.1).2, number k f.0.0 f.0.2),
      λ x w. all x (h.waiting_back (r b) x w),
    )
      where
        all : (x : ℕ) → (c : ℕ) × (a : ℕ) × waits c a × (r c ≡ r b) × (r a ≡ x) → (i : ℕ) × (i ≤ k) × IsMetAt new i x
        all x (c, a, w, ec, ea) =
            let same : c ≡ b = names-once d r waits unbound to_wait to_unbound h c b (h.waiting c a w).0 (h.waiting b f.0.0 f.0.1).0 ec in
            let n = f.1 a (subst (λ (v : ℕ). waits v a) same w) in
            (n.0, n.1, subst (λ (v : ℕ). IsMetAt new n.0 v) ea (number n.0 a n.2))

    back : (t b : ℕ) → d b → IsReleasedAt to_wait to_unbound new (suc t) (r b) → (a : ℕ) × waits b a × (r a ≡ r a) → IsReleasedAt waits unbound met (suc t) b
    back t b db f w = (
      first (h.waiting_back (r b) f.0.0 f.0.1) f.0.2,
      λ a v. let n = f.1 (r a) (h.waiting b a v).2 in (n.0, n.1, number_back n.0 a (h.waiting b a v).1 n.2),
    )
      where
        first : (c : ℕ) × (a : ℕ) × waits c a × (r c ≡ r b) × (r a ≡ f.0.0) → IsMetAt new t f.0.0 → (a : ℕ) × waits b a × IsMetAt met t a
        first (c, a, v, ec, ea) n =
            let same : c ≡ b = names-once d r waits unbound to_wait to_unbound h c b (h.waiting c a v).0 db ec in
            (a, subst (λ (u : ℕ). waits u a) same v, number_back t a (h.waiting c a v).1 (subst (λ (u : ℕ). IsMetAt new t u) (sym ea) n))

    named : (t b y : ℕ) → r b ≡ y → d b → IsReleasedAt waits unbound met t b → IsOther most new t y
    named t b y e db rel = go (m.others t b rel)
      where
        go : ((i : ℕ) × (i < length met) × (release_at met i ≡ (t, b))) ⊎ ((most ≤ length (behind met)) × ((i : ℕ) → i < length met → IsBefore (release_at met i) (t, b))) → IsOther most new t y
        go (inl f) = inl (f.0, omega (arith, f.1, long), at f.0 f.1 ∙ ap (λ (p : ℕ × ℕ). (p.0, r p.1)) f.2 ∙ ap (λ v. (t, v)) e)
        go (inr f) = inr (
          omega (arith, f.0, ap length (behind-renamed r met), length-renamed r (behind met)),
          λ i within.
              let n : i < length met = omega (arith, within, long) in
              subst (λ (p : ℕ × ℕ). IsBefore p (t, y)) (sym (at i n)) (subst (λ v. IsBefore ((release_at met i).0, r (release_at met i).1) (t, v)) e (moved (release_at met i) (t, b) (there i n) db (f.1 i n))),
        )

    others : (t y : ℕ) → IsReleasedAt to_wait to_unbound new t y → IsOther most new t y
    others zero y rel = let f = h.free_back y rel in named zero f.0 y f.2 (h.free f.0 f.1).0 f.1
    others (suc k) y rel = go (h.waiting_back y rel.0.0 rel.0.1)
      where
        go : (b : ℕ) × (a : ℕ) × waits b a × (r b ≡ y) × (r a ≡ rel.0.0) → IsOther most new (suc k) y
        go (b, a, w, eb, ea) =
            let db = (h.waiting b a w).0 in
            named (suc k) b y eb db (back k b db (subst (λ (v : ℕ). IsReleasedAt to_wait to_unbound new (suc k) v) (sym eb) rel) (a, w, refl))
