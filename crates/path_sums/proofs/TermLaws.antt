-- Terms in the code, one more of them, or one less.
--     phase-behind            what stands on one term more
--     adds-nothing, adds-half, adds-term      what is gathered with one term more
--     listed-some, listed-none    what is gathered as one list
--     sum-with, sum-without, doubled-with, doubled-without, left-step     the terms that are left, one less
--     carried, carried_back   the same phase vanishes too
--     same-empty, of-all, same-split      the last term taken out
--     all-but_last, all-last  what holds of all terms
use Rattle.std.proofs.Common.{◌≡◌, ℕ, ◌+◌, ◌*◌, ◌%◌, Bool, true, false, cond, List, [], ◌∷◌, ◌++◌, map, All, refl, sym, subst, ◌∙◌, ap, arith}
use Rattle.std.specs.Prelude.{bit_xor, ◌↔◌}
use Rattle.std.specs.List.{AllByRecursion}
use Rattle.std.specs.Int.{bit_at}
use Rattle.std.proofs.lemmas.List.{map-append}
use Rattle.std.proofs.lemmas.List.Elements.{All-from_recursion, recursion_from_All, All-same}
use Rattle.unitary_model.specs.Acts.{Bits}
use Rattle.path_parity.specs.PathSum.{xor}
use Rattle.path_parity.specs.PathFunctions.{parity, phase, Vanishes}
use Rattle.path_parity.proofs.ParityLaws.{parity-xor, phase-append}
use Rattle.path_sums.specs.declared.term.Term.{Term}
use Rattle.path_sums.specs.declared.words.Word.{Word}
use Rattle.path_sums.specs.Gathering.{AddsTerm, IsSamePhase, with_half}
use Rattle.path_sums.specs.Terms.{IsTerm, term_of}
use Rattle.path_sums.specs.Vanishing.{has_variable, moved_sets, twice, with_variable}
use Rattle.path_sums.specs.Words.{words_set}
use Rattle.path_sums.proofs.VanishingLaws.{Splits, split-vanishes, vanishes-split, empty-vanishes, vanishes-empty}

-- ---- one term more
pub phase-behind : (es : List (ℕ × ℕ)) (m k : ℕ) (v : Bits) → phase (es ++ ((m, k) ∷ [])) v ≡ phase es v + cond (parity v m) k 0
phase-behind es m k v = omega (arith, phase-append es ((m, k) ∷ []) v)

behind-mapped : (ts old : List Term) (t : Term) → old ≡ ts ++ t ∷ [] → map term_of old ≡ map term_of ts ++ (term_of t ∷ [])
behind-mapped ts old t e = ap (map term_of) e ∙ map-append term_of ts (t ∷ [])

phase-more : (ts old : List Term) (t : Term) (v : Bits) → old ≡ ts ++ t ∷ [] → phase (map term_of old) v ≡ phase (map term_of ts) v + cond (parity v (words_set t.set.items)) t.k 0
phase-more ts old t v e = ap (λ es. phase es v) (behind-mapped ts old t e) ∙ phase-behind (map term_of ts) (words_set t.set.items) t.k v

-- ---- what is gathered
gathered-phase : (ts : List Term) (half : List Word) (v : Bits) → phase (with_half ts half) v ≡ phase (map term_of ts) v + cond (parity v (words_set half)) 4 0
gathered-phase ts half v = phase-behind (map term_of ts) (words_set half) 4 v

pub adds-nothing : (m k : ℕ) (es : List (ℕ × ℕ)) → k % 8 ≡ 0 → AddsTerm m k es es
adds-nothing m k es z v = go (parity v m)
  where
    go : (b : Bool) → phase es v % 8 ≡ (phase es v + cond b k 0) % 8
    go true = omega (arith, z)
    go false = omega arith

pub adds-half : (m k : ℕ) (ts : List Term) (old new : List Word) → k % 8 ≡ 4 → words_set new ≡ bit_xor (words_set old) m → AddsTerm m k (with_half ts old) (with_half ts new)
adds-half m k ts old new f e v = ap (λ n. n % 8) (gathered-phase ts new v) ∙ (λ i. (phase (map term_of ts) v + cond (both i) 4 0) % 8) ∙ go (parity v (words_set old)) (parity v m) (phase (map term_of ts) v)
    ∙ ap (λ n. (n + cond (parity v m) k 0) % 8) (sym (gathered-phase ts old v))
  where
    both : parity v (words_set new) ≡ xor (parity v (words_set old)) (parity v m)
    both = ap (parity v) e ∙ parity-xor v (words_set old) m

    go : (a b : Bool) (x : ℕ) → (x + cond (xor a b) 4 0) % 8 ≡ (x + cond a 4 0 + cond b k 0) % 8
    go true true x = omega (arith, f)
    go true false x = omega (arith, f)
    go false true x = omega (arith, f)
    go false false x = omega (arith, f)

pub adds-term : (m k : ℕ) (ts new : List Term) (t : Term) (half : List Word) → new ≡ ts ++ t ∷ [] → words_set t.set.items ≡ m → t.k ≡ k % 8 → AddsTerm m k (with_half ts half) (with_half new half)
adds-term m k ts new t half e f g v =
    ap (λ n. n % 8) (gathered-phase new half v ∙ ap (λ n. n + cond (parity v (words_set half)) 4 0) (phase-more ts new t v e)) ∙ (λ i. (phase (map term_of ts) v + cond (parity v (f i)) (g i) 0 + cond (parity v (words_set half)) 4 0) % 8)
    ∙ go (parity v m) (phase (map term_of ts) v) (cond (parity v (words_set half)) 4 0)
    ∙ ap (λ n. (n + cond (parity v m) k 0) % 8) (sym (gathered-phase ts half v))
  where
    go : (b : Bool) (x y : ℕ) → (x + cond b (k % 8) 0 + y) % 8 ≡ (x + y + cond b k 0) % 8
    go true x y = omega arith
    go false x y = omega arith

pub listed-some : (ts new : List Term) (t : Term) (half : List Word) → new ≡ ts ++ t ∷ [] → t.set.items ≡ half → t.k ≡ 4 → IsSamePhase (map term_of new) (with_half ts half)
listed-some ts new t half e f g v = ap (λ es. phase es v % 8) (behind-mapped ts new t e ∙ (λ i. map term_of ts ++ ((words_set (f i), g i) ∷ [])))

pub listed-none : (ts : List Term) (half : List Word) → half ≡ [] → IsSamePhase (map term_of ts) (with_half ts half)
listed-none ts half e v = ap (λ n. n % 8) (go (phase (map term_of ts) v)) ∙ sym (ap (λ n. n % 8) (gathered-phase ts half v) ∙ (λ i. (phase (map term_of ts) v + cond (parity v (words_set (e i))) 4 0) % 8))
  where
    go : (x : ℕ) → x ≡ x + 0
    go x = omega arith

-- ---- one term less
with_variable-behind : (p : ℕ) (es : List (ℕ × ℕ)) (e : ℕ × ℕ) → with_variable p (es ++ e ∷ []) ≡ with_variable p es + cond (has_variable p e.0) e.1 0
with_variable-behind p [] e = omega arith
with_variable-behind p (x ∷ es) e = omega (arith, with_variable-behind p es e)

twice-behind : (s p : ℕ) (es : List (ℕ × ℕ)) (e : ℕ × ℕ) (v : Bits) → phase (twice s p (es ++ e ∷ [])) v ≡ phase (twice s p es) v + cond (has_variable p e.0) (cond (parity v (bit_xor e.0 s)) (e.1 * 2 % 8) 0) 0
twice-behind s p [] e v = go (has_variable p e.0)
  where
    go : (b : Bool) → phase (cond b ((bit_xor e.0 s, e.1 * 2 % 8) ∷ []) []) v ≡ 0 + cond b (cond (parity v (bit_xor e.0 s)) (e.1 * 2 % 8) 0) 0
    go true = omega arith
    go false = refl
twice-behind s p (x ∷ es) e v = go (has_variable p x.0) (twice-behind s p es e v)
  where
    more : (y a b c : ℕ) → a ≡ b + c → y + a ≡ y + b + c
    more y a b c h = omega (arith, h)

    go : (b : Bool) → phase (twice s p (es ++ e ∷ [])) v ≡ phase (twice s p es) v + cond (has_variable p e.0) (cond (parity v (bit_xor e.0 s)) (e.1 * 2 % 8) 0) 0 →
        phase (cond b ((bit_xor x.0 s, x.1 * 2 % 8) ∷ twice s p (es ++ e ∷ [])) (twice s p (es ++ e ∷ []))) v
        ≡ phase (cond b ((bit_xor x.0 s, x.1 * 2 % 8) ∷ twice s p es) (twice s p es)) v + cond (has_variable p e.0) (cond (parity v (bit_xor e.0 s)) (e.1 * 2 % 8) 0) 0
    go true h = more (cond (parity v (bit_xor x.0 s)) (x.1 * 2 % 8) 0) (phase (twice s p (es ++ e ∷ [])) v) (phase (twice s p es) v) (cond (has_variable p e.0) (cond (parity v (bit_xor e.0 s)) (e.1 * 2 % 8) 0) 0) h
    go false h = h

moved_sets-behind : (s p : ℕ) (es : List (ℕ × ℕ)) (e : ℕ × ℕ) (v : Bits) → phase (moved_sets s p (es ++ e ∷ [])) v ≡ phase (moved_sets s p es) v + cond (parity v (cond (has_variable p e.0) (bit_xor e.0 s) e.0)) e.1 0
moved_sets-behind s p [] e v = omega arith
moved_sets-behind s p (x ∷ es) e v = omega (arith, moved_sets-behind s p es e v)

pub sum-with : (p : ℕ) (rest old : List Term) (x : Term) (sum new all : ℕ) → old ≡ rest ++ x ∷ [] → has_variable p (words_set x.set.items) ≡ true → new ≡ (sum + x.k % 8) % 8 →
    (sum + with_variable p (map term_of old)) % 8 ≡ all → (new + with_variable p (map term_of rest)) % 8 ≡ all
sum-with p rest old x sum new all e t f h =
    let a : with_variable p (map term_of old) ≡ with_variable p (map term_of rest) + x.k =
    ap (with_variable p) (behind-mapped rest old x e) ∙ with_variable-behind p (map term_of rest) (term_of x) ∙ (λ i. with_variable p (map term_of rest) + cond (t i) x.k 0) in
    omega (arith, a, f, h)

pub sum-without : (p : ℕ) (rest old : List Term) (x : Term) (sum all : ℕ) → old ≡ rest ++ x ∷ [] → has_variable p (words_set x.set.items) ≡ false →
    (sum + with_variable p (map term_of old)) % 8 ≡ all → (sum + with_variable p (map term_of rest)) % 8 ≡ all
sum-without p rest old x sum all e t h =
    let a : with_variable p (map term_of old) ≡ with_variable p (map term_of rest) + 0 =
    ap (with_variable p) (behind-mapped rest old x e) ∙ with_variable-behind p (map term_of rest) (term_of x) ∙ (λ i. with_variable p (map term_of rest) + cond (t i) x.k 0) in
    omega (arith, a, h)

pub doubled-with : (s p : ℕ) (rest old : List Term) (x : Term) (g h : List (ℕ × ℕ)) (m k : ℕ) (all : List (ℕ × ℕ)) → old ≡ rest ++ x ∷ [] → has_variable p (words_set x.set.items) ≡ true →
    m ≡ bit_xor (words_set x.set.items) s → k ≡ x.k % 4 * 2 → AddsTerm m k g h →
    ((v : Bits) → (phase g v + phase (twice s p (map term_of old)) v) % 8 ≡ phase all v % 8) → (v : Bits) → (phase h v + phase (twice s p (map term_of rest)) v) % 8 ≡ phase all v % 8
doubled-with s p rest old x g h m k all e t f d adds r v =
    go (phase g v) (phase h v) (phase (twice s p (map term_of old)) v) (phase (twice s p (map term_of rest)) v) (cond (parity v (bit_xor (words_set x.set.items) s)) (x.k * 2 % 8) 0) a b (r v)
  where
    double : k ≡ x.k * 2 % 8
    double = omega (arith, d)

    a : phase (twice s p (map term_of old)) v ≡ phase (twice s p (map term_of rest)) v + cond (parity v (bit_xor (words_set x.set.items) s)) (x.k * 2 % 8) 0
    a = ap (λ es. phase (twice s p es) v) (behind-mapped rest old x e) ∙ twice-behind s p (map term_of rest) (term_of x) v
        ∙ (λ i. phase (twice s p (map term_of rest)) v + cond (t i) (cond (parity v (bit_xor (words_set x.set.items) s)) (x.k * 2 % 8) 0) 0)

    b : phase h v % 8 ≡ (phase g v + cond (parity v (bit_xor (words_set x.set.items) s)) (x.k * 2 % 8) 0) % 8
    b = adds v ∙ (λ i. (phase g v + cond (parity v (f i)) (double i) 0) % 8)

    go : (x y o q c : ℕ) → o ≡ q + c → y % 8 ≡ (x + c) % 8 → (x + o) % 8 ≡ phase all v % 8 → (y + q) % 8 ≡ phase all v % 8
    go x y o q c e f h = omega (arith, e, f, h)

pub doubled-without : (s p : ℕ) (rest old : List Term) (x : Term) (g all : List (ℕ × ℕ)) → old ≡ rest ++ x ∷ [] → has_variable p (words_set x.set.items) ≡ false →
    ((v : Bits) → (phase g v + phase (twice s p (map term_of old)) v) % 8 ≡ phase all v % 8) → (v : Bits) → (phase g v + phase (twice s p (map term_of rest)) v) % 8 ≡ phase all v % 8
doubled-without s p rest old x g all e t r v = omega (arith, a, r v)
  where
    a : phase (twice s p (map term_of old)) v ≡ phase (twice s p (map term_of rest)) v + 0
    a = ap (λ es. phase (twice s p es) v) (behind-mapped rest old x e) ∙ twice-behind s p (map term_of rest) (term_of x) v
        ∙ (λ i. phase (twice s p (map term_of rest)) v + cond (t i) (cond (parity v (bit_xor (words_set x.set.items) s)) (x.k * 2 % 8) 0) 0)

pub left-step : (s p : ℕ) (rest old : List Term) (x y : Term) (left new : List Term) (all : List (ℕ × ℕ)) → old ≡ rest ++ x ∷ [] →
    words_set y.set.items ≡ cond (has_variable p (words_set x.set.items)) (bit_xor (words_set x.set.items) s) (words_set x.set.items) → y.k ≡ x.k → new ≡ left ++ y ∷ [] →
    ((v : Bits) → phase (map term_of left) v + phase (moved_sets s p (map term_of old)) v ≡ phase all v) → (v : Bits) → phase (map term_of new) v + phase (moved_sets s p (map term_of rest)) v ≡ phase all v
left-step s p rest old x y left new all e f g n r v = omega (arith, a, b, r v)
  where
    C : ℕ
    C = cond (parity v (cond (has_variable p (words_set x.set.items)) (bit_xor (words_set x.set.items) s) (words_set x.set.items))) x.k 0

    a : phase (moved_sets s p (map term_of old)) v ≡ phase (moved_sets s p (map term_of rest)) v + C
    a = ap (λ es. phase (moved_sets s p es) v) (behind-mapped rest old x e) ∙ moved_sets-behind s p (map term_of rest) (term_of x) v

    b : phase (map term_of new) v ≡ phase (map term_of left) v + C
    b = phase-more left new y v n ∙ (λ i. phase (map term_of left) v + cond (parity v (f i)) (g i) 0)

-- ---- what vanishes
pub carried : (es fs : List (ℕ × ℕ)) → IsSamePhase es fs → Vanishes es → Vanishes fs
carried es fs h z v = sym (h v) ∙ z v

pub carried_back : (es fs : List (ℕ × ℕ)) → IsSamePhase es fs → Vanishes fs → Vanishes es
carried_back es fs h z v = h v ∙ z v

split_recursion : (ts : List Term) (t : Term) → AllByRecursion IsTerm (ts ++ t ∷ []) → AllByRecursion IsTerm ts × IsTerm t
split_recursion [] t h = (tt, h.0)
split_recursion (u ∷ ts) t h = let r = split_recursion ts t h.1 in ((h.0, r.0), r.1)

pub all-but_last : (ts old : List Term) (t : Term) → old ≡ ts ++ t ∷ [] → All IsTerm old → All IsTerm ts
all-but_last ts old t e h = All-from_recursion IsTerm ts (split_recursion ts t (recursion_from_All IsTerm (ts ++ t ∷ []) (All-same IsTerm (ts ++ t ∷ []) old (sym e) h))).0

pub all-last : (ts old : List Term) (t : Term) → old ≡ ts ++ t ∷ [] → All IsTerm old → IsTerm t
all-last ts old t e h = (split_recursion ts t (recursion_from_All IsTerm (ts ++ t ∷ []) (All-same IsTerm (ts ++ t ∷ []) old (sym e) h))).1

pub same-empty : (ts old : List Term) (t : Term) → old ≡ ts ++ t ∷ [] → t.set.items ≡ [] → Vanishes (map term_of ts) ↔ Vanishes (map term_of old)
same-empty ts old t e z = (
  λ h. subst Vanishes (sym list) (empty-vanishes t.k (map term_of ts) h),
  λ h. vanishes-empty t.k (map term_of ts) (subst Vanishes list h),
)
  where
    list : map term_of old ≡ map term_of ts ++ ((0, t.k) ∷ [])
    list = behind-mapped ts old t e ∙ (λ i. map term_of ts ++ ((words_set (z i), t.k) ∷ []))

pub of-all : (ts old : List Term) (t : Term) (p : ℕ) → old ≡ ts ++ t ∷ [] → bit_at (words_set t.set.items) p ≡ 1 → Vanishes (map term_of old) → Splits (words_set t.set.items) t.k p (map term_of ts)
of-all ts old t p e b h = vanishes-split (words_set t.set.items) t.k p (map term_of ts) b (subst Vanishes (behind-mapped ts old t e) h)

pub same-split : (ts old : List Term) (t : Term) (p : ℕ) (left : List (ℕ × ℕ)) → old ≡ ts ++ t ∷ [] → bit_at (words_set t.set.items) p ≡ 1 →
    (t.k + with_variable p (map term_of ts)) % 8 ≡ 0 → Vanishes (twice (words_set t.set.items) p (map term_of ts)) →
    IsSamePhase left (moved_sets (words_set t.set.items) p (map term_of ts)) → Vanishes left ↔ Vanishes (map term_of old)
same-split ts old t p left e b z d is = (
  λ h. subst Vanishes (sym (behind-mapped ts old t e)) (split-vanishes (words_set t.set.items) t.k p (map term_of ts) (record { sum = z; doubled = d; left = carried left (moved_sets (words_set t.set.items) p (map term_of ts)) is h })),
  λ h. carried_back left (moved_sets (words_set t.set.items) p (map term_of ts)) is (of-all ts old t p e b h).left,
)

pub both_ways : (A B C : Type 0) → (A ↔ B) → (B ↔ C) → A ↔ C
both_ways A B C f g = (λ a. g.0 (f.0 a), λ c. f.1 (g.1 c))
