-- The terms of a polynomial, as a map keeps them, and the walk of a polynomial.
--   insert-with         a coefficient is changed in its place, and a sum that is new comes last
--   below-with          coefficients stay below 8
--   filter-next, filter-below   the terms that are kept, one further; they are below 8
--   dihedral-at, map-length, polyed-more    the gates of a list, one further
use Rattle.std.proofs.Common.{◌≡◌, ℕ, zero, suc, ◌+◌, ◌-◌, ◌%◌, ◌<◌, Bool, true, false, cond, not, List, [], ◌∷◌, ◌++◌, All, length, take, Some, slice_get, refl, sym, subst, ◌∙◌, ap, arith, get_or}
use Rattle.std.specs.Prelude.{nat_eq, ◌==◌, filter, unwrap_or}
use Rattle.std.specs.Map.{lookup}
use Rattle.std.proofs.lemmas.Bool.Decides.{nat_tests}
use Rattle.std.proofs.lemmas.List.Elements.{All-filter}
use Rattle.std.proofs.Math.Seq.{take-suc}
use Rattle.indexmap.specs.IndexMap.{insert_entry}
use Rattle.circuit_list.specs.declared.Gate.{Gate}
use Rattle.circuit_list.specs.declared.Gate.TheVariants.{H, X, P, Cx}
use Rattle.gf2_linear.proofs.MatrixLaws.{length-identity}
use Rattle.gf2_linear.proofs.RunLaws.{length-added}
use Rattle.phase_poly.specs.Rows.{has}
use Rattle.phase_poly.specs.Polys.{IsDihedral, AreDihedral, Term, with_term, PolyBody, first_poly, polyed, polyed_all}
use Rattle.phase_poly.proofs.BuildLaws.{polyed-append}

-- ---- one term
turned : (a m : ℕ) → nat_eq a m ≡ nat_eq m a
turned a m = grind (arith, nat_tests)

same_number : (a m : ℕ) → nat_eq a m ≡ true → a ≡ m
same_number a m h = grind (arith, nat_tests)

pub insert-with : (m k : ℕ) (ts : List Term) → k < 8 → insert_entry nat_eq ts m ((unwrap_or (lookup (nat_eq m) ts) 0 % 8 + k) % 8) ≡ with_term m k ts
insert-with m k [] h = ap (λ z. (m, z) ∷ []) (small k h)
  where
    small : (k : ℕ) → k < 8 → (0 % 8 + k) % 8 ≡ k
    small k h = omega (arith, h)
insert-with m k (e ∷ ts) h = go (nat_eq m e.0) refl (insert-with m k ts h)
  where
    sums : (a : ℕ) → (a % 8 + k) % 8 ≡ (a + k) % 8
    sums a = omega arith

    go : (b : Bool) → nat_eq m e.0 ≡ b → insert_entry nat_eq ts m ((unwrap_or (lookup (nat_eq m) ts) 0 % 8 + k) % 8) ≡ with_term m k ts →
        cond b ((e.0, (unwrap_or (cond b (Some e.1) (lookup (nat_eq m) ts)) 0 % 8 + k) % 8) ∷ ts) (e ∷ insert_entry nat_eq ts m ((unwrap_or (cond b (Some e.1) (lookup (nat_eq m) ts)) 0 % 8 + k) % 8)) ≡ with_term m k (e ∷ ts)
    go true f r = (λ i. (sym (same_number m e.0 f) i, sums e.1 i) ∷ ts) ∙ (λ i. cond (sym (turned e.0 m ∙ f) i) ((m, (e.1 + k) % 8) ∷ ts) (e ∷ with_term m k ts))
    go false f r = ap (λ z. e ∷ z) r ∙ (λ i. cond (sym (turned e.0 m ∙ f) i) ((m, (e.1 + k) % 8) ∷ ts) (e ∷ with_term m k ts))

pub below-with : (m k : ℕ) (ts : List Term) → k < 8 → All (λ e. e.1 < 8) ts → All (λ e. e.1 < 8) (with_term m k ts)
below-with m k [] lk h zero d l = lk
below-with m k [] lk h (suc j) d l = absurd (omega arith)
below-with m k (e ∷ ts) lk h j d l = go (nat_eq e.0 m) (below-with m k ts lk (λ i c g. h (suc i) c (omega arith))) j l
  where
    go : (b : Bool) → All (λ e. e.1 < 8) (with_term m k ts) → (j : ℕ) → j < length (cond b ((m, (e.1 + k) % 8) ∷ ts) (e ∷ with_term m k ts)) → (get_or (cond b ((m, (e.1 + k) % 8) ∷ ts) (e ∷ with_term m k ts)) j d).1 < 8
    go true r zero l = omega arith
    go true r (suc j) l = h (suc j) d (omega arith)
    go false r zero l = h 0 d (omega arith)
    go false r (suc j) l = r j d (omega arith)

-- ---- the terms whose coefficient isn't 0
filter-append : (ts us : List Term) → filter (λ e. not (e.1 == 0)) (ts ++ us) ≡ filter (λ e. not (e.1 == 0)) ts ++ filter (λ e. not (e.1 == 0)) us
filter-append [] us = refl
filter-append (e ∷ ts) us = go (not (nat_eq e.1 0)) (filter-append ts us)
  where
    go : (b : Bool) → filter (λ e. not (e.1 == 0)) (ts ++ us) ≡ filter (λ e. not (e.1 == 0)) ts ++ filter (λ e. not (e.1 == 0)) us →
        cond b (e ∷ filter (λ e. not (e.1 == 0)) (ts ++ us)) (filter (λ e. not (e.1 == 0)) (ts ++ us)) ≡ cond b (e ∷ filter (λ e. not (e.1 == 0)) ts) (filter (λ e. not (e.1 == 0)) ts) ++ filter (λ e. not (e.1 == 0)) us
    go true r = ap (λ z. e ∷ z) r
    go false r = r

take-one : (ts : List Term) (i : ℕ) (e : Term) → slice_get ts i ≡ Some e → take (i + 1) ts ≡ take i ts ++ e ∷ []
take-one ts i e h = ap (λ k. take k ts) (one i) ∙ go ts i h
  where
    one : (i : ℕ) → i + 1 ≡ suc i
    one i = omega arith

    go : (ts : List Term) (i : ℕ) → slice_get ts i ≡ Some e → take (suc i) ts ≡ take i ts ++ e ∷ []
    go [] i g = absurd (cc)
    go (x ∷ ts) zero g = let s : x ≡ e = cc in ap (λ z. z ∷ []) s
    go (x ∷ ts) (suc i) g = ap (λ z. x ∷ z) (go ts i g)

pub filter-next : (ts : List Term) (i : ℕ) (e : Term) (kept next : List Term) → slice_get ts i ≡ Some e → kept ≡ filter (λ e. not (e.1 == 0)) (take i ts) →
    next ≡ kept ++ filter (λ e. not (e.1 == 0)) (e ∷ []) → next ≡ filter (λ e. not (e.1 == 0)) (take (i + 1) ts)
filter-next ts i e kept next g h n =
    n ∙ ap (λ z. z ++ filter (λ e. not (e.1 == 0)) (e ∷ [])) h ∙ sym (filter-append (take i ts) (e ∷ [])) ∙ ap (filter (λ e. not (e.1 == 0))) (sym (take-one ts i e g))

pub filter-below : (ts us : List Term) → us ≡ filter (λ e. not (e.1 == 0)) ts → All (λ e. e.1 < 8) ts → All (λ e. e.1 < 8) us
filter-below ts us e h = subst (λ (z : List Term). All (λ e. e.1 < 8) z) (sym e) (All-filter (λ (e : Term). not (e.1 == 0)) (λ e. e.1 < 8) ts h)

-- ---- the walk of a polynomial
pub dihedral-at : (n : ℕ) (gs : List Gate) (i : ℕ) (d : Gate) → i < length gs → AreDihedral n gs → IsDihedral n (get_or gs i d)
dihedral-at n [] i d l h = absurd (omega arith)
dihedral-at n (g ∷ gs) zero d l h = h.0
dihedral-at n (g ∷ gs) (suc i) d l h = dihedral-at n gs i d (omega arith) h.1

map_kept : (g : Gate) (p : PolyBody) → length (polyed g p).map ≡ length p.map
map_kept (H q) p = refl
map_kept (X q) p = refl
map_kept (P k q) p = go (has p.flips q)
  where
    go : (b : Bool) → length (cond b
        (record p { constant = (p.constant + k) % 8; terms = with_term (get_or p.map q 0) (8 - k) p.terms })
        (record p { terms = with_term (get_or p.map q 0) k p.terms })).map ≡ length p.map
    go true = refl
    go false = refl
map_kept (Cx c t) p = length-added p.map (c, t)

map_all : (gs : List Gate) (p : PolyBody) → length (polyed_all gs p).map ≡ length p.map
map_all [] p = refl
map_all (g ∷ gs) p = map_all gs (polyed g p) ∙ map_kept g p

pub map-length : (n : ℕ) (gs : List Gate) → length (polyed_all gs (first_poly n)).map ≡ n
map-length n gs = map_all gs (first_poly n) ∙ length-identity n

pub polyed-more : (gs : List Gate) (i : ℕ) (d : Gate) (s next first : PolyBody) → i < length gs → s ≡ polyed_all (take i gs) first → next ≡ polyed (get_or gs i d) s → next ≡ polyed_all (take (i + 1) gs) first
polyed-more gs i d s next first l h w =
    w ∙ ap (polyed (get_or gs i d)) h ∙ sym (polyed-append (take i gs) (get_or gs i d ∷ []) first)
    ∙ ap (λ z. polyed_all z first) (sym (take-suc gs i d l) ∙ ap (λ k. take k gs) (one i))
  where
    one : (i : ℕ) → suc i ≡ i + 1
    one i = omega arith
