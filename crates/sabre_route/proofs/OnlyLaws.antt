-- The CNOTs of some gates alone.
--   front-only           where no gate can be emitted, their front layer is that of all gates
--   IsSeen-front         .. and of those that a lookout has, the first
--   only-single          a gate on one wire is none of them
--   only-taken           a CNOT that is first on its wires is first among them, and so it is taken
--   seen-past            the gates that are left go on, and a lookout with them
use Rattle.std.proofs.Common.{◌≡◌, ℕ, zero, suc, ◌⊎◌, inl, inr, ◌||◌, Bool, not, true, false, cond, List, [], ◌∷◌, ◌++◌, Some, length, remove, slice_get, take, refl, sym, ◌∙◌, ap, subst, arith, append-nil, append_assoc}
use Rattle.std.specs.List.{list_any}
use Rattle.std.proofs.Math.Seq.{take-append_seam}
use Rattle.std.proofs.lemmas.Bool.{or_cases, or_right}
use Rattle.std.proofs.lemmas.List.{take-append-le}
use Rattle.std.proofs.lemmas.List.Edits.{remove-append_left}
use Rattle.std.proofs.lemmas.List.Elements.{filter-append}
use Rattle.std.proofs.lemmas.List.Folds.{list_any-append}
use Rattle.std.proofs.lemmas.Option.{slice_get_within}
use Rattle.circuit_list.specs.declared.Gate.{Gate}
use Rattle.circuit_list.specs.declared.Gate.TheVariants.{H, X, P, Cx}
use Rattle.circuit_list.specs.Gates.{is_cx}
use Rattle.sabre_route.specs.Ahead.{cx_only}
use Rattle.sabre_route.specs.Left.{IsFirstGate}
use Rattle.sabre_route.specs.Machine.{IsEmittable}
use Rattle.sabre_route.specs.Search.{cnots, front, is_free, shares}
use Rattle.sabre_route.proofs.BoundLaws.{single-near}
use Rattle.sabre_route.proofs.LookLaws.{shares-wire, wire-shares, IsWire}

-- ---- lists of tests
pub only-append : (xs ys : List Gate) → cx_only (xs ++ ys) ≡ cx_only xs ++ cx_only ys
only-append xs ys = filter-append is_cx xs ys

only-more : (xs : List Gate) (g : Gate) → is_cx g ≡ true → cx_only (xs ++ g ∷ []) ≡ cx_only xs ++ g ∷ []
only-more xs g e = only-append xs (g ∷ []) ∙ ap (λ b. cx_only xs ++ cond b (g ∷ []) []) e

only-less : (xs : List Gate) (g : Gate) → is_cx g ≡ false → cx_only (xs ++ g ∷ []) ≡ cx_only xs
only-less xs g e = only-append xs (g ∷ []) ∙ ap (λ b. cx_only xs ++ cond b (g ∷ []) []) e ∙ append-nil (cx_only xs)

any-weaker : (p q : Gate → Bool) (xs : List Gate) → ((x : Gate) → p x ≡ true → q x ≡ true) → list_any p xs ≡ true → list_any q xs ≡ true
any-weaker p q [] h e = absurd (cc)
any-weaker p q (x ∷ xs) h e = go (or_cases (p x) (list_any p xs) e) (any-weaker p q xs h)
  where
    go : (p x ≡ true) ⊎ (list_any p xs ≡ true) → (list_any p xs ≡ true → list_any q xs ≡ true) → (q x || list_any q xs) ≡ true
    go (inl f) more = let g = h x f in λ z. g z || list_any q xs
    go (inr f) more = or_right (q x) (list_any q xs) (more f)

-- none among all, none among the CNOTs
any-only : (p : Gate → Bool) (xs : List Gate) → list_any p xs ≡ false → list_any p (cx_only xs) ≡ false
any-only p [] e = refl
any-only p (x ∷ xs) e = go (is_cx x) (p x) refl (list_any p xs) refl (any-only p xs)
  where
    go : (b c : Bool) → p x ≡ c → (r : Bool) → list_any p xs ≡ r → (list_any p xs ≡ false → list_any p (cx_only xs) ≡ false) → list_any p (cond b (x ∷ cx_only xs) (cx_only xs)) ≡ false
    go b true f r g more = absurd (false_true (sym e ∙ (λ z. f z || list_any p xs)))
      where
        false_true : false ≡ true → ⊥
        false_true h = cc
    go b false f true g more = absurd (false_true (sym e ∙ (λ z. f z || g z)))
      where
        false_true : false ≡ true → ⊥
        false_true h = cc
    go true false f false g more = (λ z. f z || more g z)
    go false false f false g more = more g

-- ---- the front layer
-- what shares a wire with one of the gates in front does so with a CNOT among them
abbrev pub IsCovered : List Gate → Type 0
IsCovered before = (g : Gate) → list_any (shares g) before ≡ list_any (shares g) (cx_only before)

covered-cx : (before : List Gate) (x : Gate) → is_cx x ≡ true → IsCovered before → IsCovered (before ++ x ∷ [])
covered-cx before x e h = λ g.
    list_any-append (shares g) before (x ∷ []) ∙ (λ z. h g z || list_any (shares g) (x ∷ [])) ∙ sym (list_any-append (shares g) (cx_only before) (x ∷ []))
    ∙ ap (list_any (shares g)) (sym (only-more before x e))

-- a gate on one wire
single-wire : (x : Gate) (v w : ℕ) → is_cx x ≡ false → IsWire x v → IsWire x w → v ≡ w
single-wire (H q) v w e (inl f) (inl g) = sym f ∙ g
single-wire (H q) v w e (inl f) (inr g) = sym f ∙ g
single-wire (H q) v w e (inr f) (inl g) = sym f ∙ g
single-wire (H q) v w e (inr f) (inr g) = sym f ∙ g
single-wire (X q) v w e (inl f) (inl g) = sym f ∙ g
single-wire (X q) v w e (inl f) (inr g) = sym f ∙ g
single-wire (X q) v w e (inr f) (inl g) = sym f ∙ g
single-wire (X q) v w e (inr f) (inr g) = sym f ∙ g
single-wire (P k q) v w e (inl f) (inl g) = sym f ∙ g
single-wire (P k q) v w e (inl f) (inr g) = sym f ∙ g
single-wire (P k q) v w e (inr f) (inl g) = sym f ∙ g
single-wire (P k q) v w e (inr f) (inr g) = sym f ∙ g
single-wire (Cx c t) v w e f g = absurd (cc)

covered-single : (before : List Gate) (x : Gate) → is_cx x ≡ false → list_any (shares x) before ≡ true → IsCovered before → IsCovered (before ++ x ∷ [])
covered-single before x e behind h = λ g.
    list_any-append (shares g) before (x ∷ []) ∙ (λ z. h g z || list_any (shares g) (x ∷ [])) ∙ go g (shares g x) refl ∙ ap (list_any (shares g)) (sym (only-less before x e))
  where
    through : (g y : Gate) → shares g x ≡ true → shares x y ≡ true → shares g y ≡ true
    through g y s t =
        let a = shares-wire g x s in
        let b = shares-wire x y t in
        wire-shares g y a.0 a.1 (subst (IsWire y) (single-wire x b.0 a.0 e b.1 a.2) b.2)

    or-none : (b : Bool) → (b || false) ≡ b
    or-none true = refl
    or-none false = refl

    go : (g : Gate) (b : Bool) → shares g x ≡ b → (list_any (shares g) (cx_only before) || list_any (shares g) (x ∷ [])) ≡ list_any (shares g) (cx_only before)
    go g true s =
        let all = any-weaker (shares x) (shares g) (cx_only before) (λ y t. through g y s t) (sym (h x) ∙ behind) in
        (λ z. all z || list_any (shares g) (x ∷ [])) ∙ sym all
    go g false s = (λ z. list_any (shares g) (cx_only before) || (s z || false)) ∙ or-none (list_any (shares g) (cx_only before))

-- a gate on one wire isn't first on it where none can be emitted
not_free : (es : List (ℕ × ℕ)) (q : List ℕ) (whole before : List Gate) (x : Gate) (gs : List Gate) → whole ≡ before ++ x ∷ gs → ((j : ℕ) (g : Gate) → IsEmittable es q whole j g → ⊥) → is_cx x ≡ false
    → list_any (shares x) before ≡ true
unfolding is_free
not_free es q whole before x gs same stuck e = go (list_any (shares x) before) refl
  where
    at : (xs ys : List Gate) (y : Gate) → slice_get (xs ++ y ∷ ys) (length xs) ≡ Some y
    at [] ys y = refl
    at (z ∷ xs) ys y = at xs ys y

    go : (b : Bool) → list_any (shares x) before ≡ b → list_any (shares x) before ≡ true
    go true f = f
    go false f = absurd (stuck (length before) x (record {
      there = ap (λ (ys : List Gate). slice_get ys (length before)) same ∙ at before gs x;
      first = ap (λ (ys : List Gate). not (list_any (shares x) (take (length before) ys))) same ∙ ap (λ (ys : List Gate). not (list_any (shares x) ys)) (take-append_seam before (x ∷ gs)) ∙ ap not f;
      near = single-near es q x e;
    }))

only-front : (es : List (ℕ × ℕ)) (q : List ℕ) (whole before gs : List Gate) → whole ≡ before ++ gs → ((j : ℕ) (g : Gate) → IsEmittable es q whole j g → ⊥) → IsCovered before
    → cnots true before gs ≡ cnots true (cx_only before) (cx_only gs)
unfolding is_free
only-front es q whole before [] same stuck h = refl
only-front es q whole before (H w ∷ gs) same stuck h =
    only-front es q whole (before ++ H w ∷ []) gs (same ∙ sym (append_assoc before (H w ∷ []) gs)) stuck (covered-single before (H w) refl (not_free es q whole before (H w) gs same stuck refl) h)
    ∙ ap (λ (xs : List Gate). cnots true xs (cx_only gs)) (only-less before (H w) refl)
only-front es q whole before (X w ∷ gs) same stuck h =
    only-front es q whole (before ++ X w ∷ []) gs (same ∙ sym (append_assoc before (X w ∷ []) gs)) stuck (covered-single before (X w) refl (not_free es q whole before (X w) gs same stuck refl) h)
    ∙ ap (λ (xs : List Gate). cnots true xs (cx_only gs)) (only-less before (X w) refl)
only-front es q whole before (P k w ∷ gs) same stuck h =
    only-front es q whole (before ++ P k w ∷ []) gs (same ∙ sym (append_assoc before (P k w ∷ []) gs)) stuck (covered-single before (P k w) refl (not_free es q whole before (P k w) gs same stuck refl) h)
    ∙ ap (λ (xs : List Gate). cnots true xs (cx_only gs)) (only-less before (P k w) refl)
only-front es q whole before (Cx c t ∷ gs) same stuck h =
    let more = only-front es q whole (before ++ Cx c t ∷ []) gs (same ∙ sym (append_assoc before (Cx c t ∷ []) gs)) stuck (covered-cx before (Cx c t) refl h)
    ∙ ap (λ (xs : List Gate). cnots true xs (cx_only gs)) (only-more before (Cx c t) refl) in
    λ z. cond (not (h (Cx c t) z)) ((c, t) ∷ more z) (more z)

pub front-only : (es : List (ℕ × ℕ)) (q : List ℕ) (gs : List Gate) → ((j : ℕ) (g : Gate) → IsEmittable es q gs j g → ⊥) → front gs ≡ front (cx_only gs)
front-only es q gs stuck = only-front es q gs [] gs refl stuck (λ g. refl)

-- ---- a gate is taken
pub only-single : (gs : List Gate) (j : ℕ) (g : Gate) → slice_get gs j ≡ Some g → is_cx g ≡ false → cx_only (remove gs j) ≡ cx_only gs
only-single [] j g at e = absurd (omega (arith, slice_get_within [] j g at))
only-single (x ∷ gs) zero g at e =
    let same : x ≡ g = cc in
    sym (ap (λ b. cond b (x ∷ cx_only gs) (cx_only gs)) (ap is_cx same ∙ e))
only-single (x ∷ gs) (suc j) g at e = λ z. cond (is_cx x) (x ∷ only-single gs j g at e z) (only-single gs j g at e z)

pub only-at : (gs : List Gate) (j : ℕ) (g : Gate) → slice_get gs j ≡ Some g → is_cx g ≡ true
    → (slice_get (cx_only gs) (length (cx_only (take j gs))) ≡ Some g) × (cx_only (remove gs j) ≡ remove (cx_only gs) (length (cx_only (take j gs)))) × (take (length (cx_only (take j gs))) (cx_only gs) ≡ cx_only (take j gs))
only-at [] j g at e = absurd (omega (arith, slice_get_within [] j g at))
only-at (x ∷ gs) zero g at e =
    let same : x ≡ g = cc in
    let here : cx_only (x ∷ gs) ≡ x ∷ cx_only gs = ap (λ b. cond b (x ∷ cx_only gs) (cx_only gs)) (ap is_cx same ∙ e) in
    (ap (λ ys. slice_get ys 0) here ∙ ap Some same, sym (ap (λ ys. remove ys 0) here), refl)
only-at (x ∷ gs) (suc j) g at e = go (is_cx x) (only-at gs j g at e)
  where
    ys : List Gate
    ys = cx_only (take j gs)

    go : (b : Bool) → (slice_get (cx_only gs) (length ys) ≡ Some g) × (cx_only (remove gs j) ≡ remove (cx_only gs) (length ys)) × (take (length ys) (cx_only gs) ≡ ys)
        → (slice_get (cond b (x ∷ cx_only gs) (cx_only gs)) (length (cond b (x ∷ ys) ys)) ≡ Some g)
        × (cond b (x ∷ cx_only (remove gs j)) (cx_only (remove gs j)) ≡ remove (cond b (x ∷ cx_only gs) (cx_only gs)) (length (cond b (x ∷ ys) ys)))
        × (take (length (cond b (x ∷ ys) ys)) (cond b (x ∷ cx_only gs) (cx_only gs)) ≡ cond b (x ∷ ys) ys)
    go true h = (h.0, ap (λ zs. x ∷ zs) h.1, ap (λ zs. x ∷ zs) h.2)
    go false h = h

get-append : (xs ys : List Gate) (j : ℕ) (g : Gate) → slice_get xs j ≡ Some g → slice_get (xs ++ ys) j ≡ Some g
get-append [] ys j g at = absurd (omega (arith, slice_get_within [] j g at))
get-append (x ∷ xs) ys zero g at = at
get-append (x ∷ xs) ys (suc j) g at = get-append xs ys j g at

pub only-taken : (gs following : List Gate) (j : ℕ) (g : Gate) → IsFirstGate gs j g → is_cx g ≡ true
    → (i : ℕ) × IsFirstGate (cx_only (gs ++ following)) i g × (cx_only (remove gs j ++ following) ≡ remove (cx_only (gs ++ following)) i)
unfolding is_free
only-taken gs following j g h e =
    let at = only-at gs j g h.there e in
    let i = length (cx_only (take j gs)) in
    let within = slice_get_within (cx_only gs) i g at.0 in
    let both = only-append gs following in (
      i,
      record {
        there = ap (λ (xs : List Gate). slice_get xs i) both ∙ get-append (cx_only gs) (cx_only following) i g at.0;
        first = ap (λ (xs : List Gate). not (list_any (shares g) xs)) (ap (take i) both ∙ take-append-le i (cx_only gs) (cx_only following) (omega (arith, within)) ∙ at.2)
            ∙ ap not (any-only (shares g) (take j gs) (unfree (list_any (shares g) (take j gs)) refl));
      },
      only-append (remove gs j) following ∙ ap (λ xs. xs ++ cx_only following) at.1 ∙ sym (remove-append_left (cx_only gs) (cx_only following) i within) ∙ ap (λ xs. remove xs i) (sym both),
    )
  where
    false_true : false ≡ true → ⊥
    false_true f = cc

    unfree : (b : Bool) → list_any (shares g) (take j gs) ≡ b → list_any (shares g) (take j gs) ≡ false
    unfree true f = absurd (false_true (ap not (sym f) ∙ h.first))
    unfree false f = f
