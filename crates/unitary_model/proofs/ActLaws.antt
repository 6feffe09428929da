-- Laws of lists that act on functions of bits of any kind, with values of any kind.
--     act-append              a joined list acts by its parts;  applied-append: on all wires
--     act-hom                 a map of the values that keeps sums and turns goes through
--     act-double, act-turn, act-mul, act-nought, act-plus     such maps of ring values
--     Within G us             G holds of each wire of the list
--     act-carry               other names of the wires, and other bits around them
use Rattle.std.proofs.Common.{◌≡◌, ℕ, zero, suc, ◌+◌, Bool, true, false, cond, not, List, [], ◌∷◌, ◌++◌, map, refl, sym, ◌∙◌, ap}
use Rattle.unitary_model.specs.declared.Op.{Op}
use Rattle.unitary_model.specs.declared.Op.TheVariants.{U, Cx}
use Rattle.unitary_model.specs.Ring.{Ring, nought, plus, turn1, turn, double, mul}
use Rattle.unitary_model.specs.Acts.{spins, share, step, act, Bits, bit, put, applied, place}
use Rattle.unitary_model.proofs.RingLaws.{turn1-plus, turn-plus, swap_inner, double-plus, double-turn, plus-nought, turn1-nought, mul-plus, mul-turn1}

pub act-append : {M X : Type 0} (add : M → M → M) (spin : M → M) (bit : X → ℕ → Bool) (set : X → ℕ → Bool → X) (us vs : List Op) (f : X → M) →
    act add spin bit set (us ++ vs) f ≡ act add spin bit set us (act add spin bit set vs f)
act-append add spin bit set [] vs f = refl
act-append add spin bit set (u ∷ us) vs f = ap (step add spin bit set u) (act-append add spin bit set us vs f)

pub applied-append : (us vs : List Op) (f : Bits → Ring) → applied (us ++ vs) f ≡ applied us (applied vs f)
applied-append us vs f = act-append plus turn1 bit put us vs f

-- ---- a map of the values that keeps sums and turns goes through
spins-hom : {M N : Type 0} (spin : M → M) (spin' : N → N) (h : M → N) → ((v : M) → h (spin v) ≡ spin' (h v)) → (k : ℕ) (v : M) → h (spins spin k v) ≡ spins spin' k (h v)
spins-hom spin spin' h e zero v = refl
spins-hom spin spin' h e (suc k) v = e (spins spin k v) ∙ ap spin' (spins-hom spin spin' h e k v)

cond-hom : {M N : Type 0} (h : M → N) (b : Bool) (v u : M) → h (cond b v u) ≡ cond b (h v) (h u)
cond-hom h true v u = refl
cond-hom h false v u = refl

share-hom : {M N : Type 0} (add : M → M → M) (spin : M → M) (add' : N → N → N) (spin' : N → N) (h : M → N) → ((v u : M) → h (add v u) ≡ add' (h v) (h u)) → ((v : M) → h (spin v) ≡ spin' (h v)) →
    (k l : ℕ) (v : M) → h (share add spin k l v) ≡ share add' spin' k l (h v)
share-hom add spin add' spin' h p q k l v = spins-hom spin spin' h q k (add v (spins spin l v)) ∙ ap (spins spin' k) (p v (spins spin l v) ∙ ap (add' (h v)) (spins-hom spin spin' h q l v))

pub act-hom : {M N X : Type 0} (add : M → M → M) (spin : M → M) (add' : N → N → N) (spin' : N → N) (bit : X → ℕ → Bool) (set : X → ℕ → Bool → X)
    (h : M → N) → ((v u : M) → h (add v u) ≡ add' (h v) (h u)) → ((v : M) → h (spin v) ≡ spin' (h v)) →
    (us : List Op) (f : X → M) (x : X) → h (act add spin bit set us f x) ≡ act add' spin' bit set us (λ y. h (f y)) x
act-hom add spin add' spin' bit set h p q [] f x = refl
act-hom add spin add' spin' bit set h p q (Cx c t ∷ us) f x =
    cond-hom h (bit x c) _ _ ∙ (λ i. cond (bit x c) (act-hom add spin add' spin' bit set h p q us f (set x t (not (bit x t))) i) (act-hom add spin add' spin' bit set h p q us f x i))
act-hom {M} {N} add spin add' spin' bit set h p q (U a b c w ∷ us) f x =
    let F = λ (b : Bool). act add spin bit set us f (set x w b) in
    let e = λ (b : Bool). act-hom add spin add' spin' bit set h p q us f (set x w b) in
    let s = λ (k l : ℕ) (b : Bool). share-hom add spin add' spin' h p q k l (F b) ∙ ap (share add' spin' k l) (e b) in
    cond-hom h (bit x w) _ _ ∙ (λ i. cond (bit x w)
    ((p (share add spin (c + 6) (a + 4) (F false)) (share add spin (b + c) a (F true)) ∙ (λ j. add' (s (c + 6) (a + 4) false j) (s (b + c) a true j))) i)
    ((p (share add spin 0 a (F false)) (share add spin (b + 2) (a + 4) (F true)) ∙ (λ j. add' (s 0 a false j) (s (b + 2) (a + 4) true j))) i))

-- ---- values in the ring: doublings, turns, products and sums go through
double-turn1 : (n : ℕ) (v : Ring) → double n (turn1 v) ≡ turn1 (double n v)
double-turn1 n v = double-turn n 1 v

turn-turn1 : (k : ℕ) (v : Ring) → turn k (turn1 v) ≡ turn1 (turn k v)
turn-turn1 zero v = refl
turn-turn1 (suc k) v = ap turn1 (turn-turn1 k v)

pub act-double : {X : Type 0} (bit : X → ℕ → Bool) (set : X → ℕ → Bool → X) (n : ℕ) (us : List Op) (f : X → Ring) (x : X) → double n (act plus turn1 bit set us f x) ≡ act plus turn1 bit set us (λ z. double n (f z)) x
act-double bit set n us f x = act-hom plus turn1 plus turn1 bit set (double n) (double-plus n) (double-turn1 n) us f x

pub act-turn : {X : Type 0} (bit : X → ℕ → Bool) (set : X → ℕ → Bool → X) (k : ℕ) (us : List Op) (f : X → Ring) (x : X) → turn k (act plus turn1 bit set us f x) ≡ act plus turn1 bit set us (λ z. turn k (f z)) x
act-turn bit set k us f x = act-hom plus turn1 plus turn1 bit set (turn k) (turn-plus k) (turn-turn1 k) us f x

pub act-mul : {X : Type 0} (bit : X → ℕ → Bool) (set : X → ℕ → Bool → X) (us : List Op) (f : X → Ring) (v : Ring) (x : X) → mul (act plus turn1 bit set us f x) v ≡ act plus turn1 bit set us (λ z. mul (f z) v) x
act-mul bit set us f v x = act-hom plus turn1 plus turn1 bit set (λ c. mul c v) (λ c e. mul-plus c e v) (λ c. mul-turn1 c v) us f x

pub act-nought : {X : Type 0} (bit : X → ℕ → Bool) (set : X → ℕ → Bool → X) (us : List Op) (x : X) → act plus turn1 bit set us (λ z. nought) x ≡ nought
act-nought bit set us x = sym (act-hom plus turn1 plus turn1 bit set (λ v. nought) (λ v u. sym (plus-nought nought)) (λ v. turn1-nought) us (λ z. nought) x)

pub act-plus : {X : Type 0} (bit : X → ℕ → Bool) (set : X → ℕ → Bool → X) (us : List Op) (f g : X → Ring) (x : X) → plus (act plus turn1 bit set us f x) (act plus turn1 bit set us g x) ≡ act plus turn1 bit set us (λ z. plus (f z) (g z)) x
act-plus bit set us f g x =
    (λ i. plus (sym (act-hom add spin plus turn1 bit set (λ p. p.0) (λ v u. refl) (λ v. refl) us (λ z. (f z, g z)) x) i) (sym (act-hom add spin plus turn1 bit set (λ p. p.1) (λ v u. refl) (λ v. refl) us (λ z. (f z, g z)) x) i))
    ∙ act-hom add spin plus turn1 bit set (λ p. plus p.0 p.1) (λ v u. swap_inner v.0 u.0 v.1 u.1) (λ v. sym (turn1-plus v.0 v.1)) us (λ z. (f z, g z)) x
  where
    add : (Ring × Ring) → (Ring × Ring) → (Ring × Ring)
    add v u = (plus v.0 u.0, plus v.1 u.1)

    spin : (Ring × Ring) → (Ring × Ring)
    spin v = (turn1 v.0, turn1 v.1)

-- ---- other names for the wires, and other bits around them
-- h carries the bits y into x's kind, p the wires; G holds of the wires that are meant
abbrev pub Within : (ℕ → Type 0) → List Op → Type 0
Within G [] = Unit {0}
Within G (U a b c q ∷ us) = G q × Within G us
Within G (Cx c t ∷ us) = G c × (G t × Within G us)

pub act-carry : {M X Y : Type 0} (add : M → M → M) (spin : M → M) (bit : X → ℕ → Bool) (set : X → ℕ → Bool → X) (bit' : Y → ℕ → Bool) (set' : Y → ℕ → Bool → Y)
    (G : ℕ → Type 0) (p : ℕ → ℕ) (h : Y → X) → ((y : Y) (i : ℕ) → G i → bit (h y) (p i) ≡ bit' y i) → ((y : Y) (i : ℕ) (b : Bool) → G i → set (h y) (p i) b ≡ h (set' y i b)) →
    (us : List Op) → Within G us → (f : X → M) (y : Y) → act add spin bit set (map (place p) us) f (h y) ≡ act add spin bit' set' us (λ z. f (h z)) y
act-carry add spin bit set bit' set' G p h e d [] g f y = refl
act-carry add spin bit set bit' set' G p h e d (Cx c t ∷ us) g f y =
    let F = act add spin bit set (map (place p) us) f in
    let r = act-carry add spin bit set bit' set' G p h e d us g.1.1 f in
    (λ i. cond (e y c g.0 i) (F (set (h y) (p t) (not (e y t g.1.0 i)))) (F (h y)))
    ∙ (λ i. cond (bit' y c) ((ap F (d y t (not (bit' y t)) g.1.0) ∙ r (set' y t (not (bit' y t)))) i) (r y i))
act-carry add spin bit set bit' set' G p h e d (U a b c q ∷ us) g f y =
    let F = act add spin bit set (map (place p) us) f in
    let r = λ (b : Bool). ap F (d y q b g.0) ∙ act-carry add spin bit set bit' set' G p h e d us g.1 f (set' y q b) in
    (λ i. cond (e y q g.0 i)
    (add (share add spin (c + 6) (a + 4) (r false i)) (share add spin (b + c) a (r true i)))
    (add (share add spin 0 a (r false i)) (share add spin (b + 2) (a + 4) (r true i))))
