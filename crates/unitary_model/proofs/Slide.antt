-- An operation moves past what does not touch its wires.
--     put_twice, put_own, put_comm, bit_put, bit_off      one bit and then another
--     Off q us, OffOp u us    no operation of the list touches wire q; none touches a wire of u
--     hold, held              what does not touch a wire leaves its bit
--     share-plus, share-turn1, applied-share, applied-plus        sums go through
--     slide, Turns_slide, Turns_slide_back    the move, forth and back
use Rattle.std.proofs.Common.{◌≡◌, ◌≢◌, ℕ, zero, suc, ◌+◌, Bool, true, false, cond, not, List, [], ◌∷◌, ◌++◌, refl, sym, ◌∙◌, ap, arith}
use Rattle.std.proofs.Math.Path.{fun_ext}
use Rattle.std.specs.Prelude.{nat_eq}
use Rattle.std.proofs.lemmas.Bool.Decides.{nat_tests}
use Rattle.unitary_model.specs.declared.Op.{Op}
use Rattle.unitary_model.specs.declared.Op.TheVariants.{U, Cx}
use Rattle.unitary_model.specs.Ring.{Ring, plus, turn1, double}
use Rattle.unitary_model.specs.Operations.{weight}
use Rattle.unitary_model.specs.Acts.{spins, share, step, act, Bits, bit, put, applied, Turns}
use Rattle.unitary_model.proofs.RingLaws.{turn1-plus, swap_inner}
use Rattle.unitary_model.proofs.ActLaws.{act-plus, applied-append, act-hom, act-carry, Within}
use Rattle.unitary_model.proofs.TurnsLaws.{weight-append}
use Rattle.unitary_model.proofs.AmplitudeLaws.{place_self}

pub put_twice : (x : Bits) (q : ℕ) (b c : Bool) → put (put x q b) q c ≡ put x q c
put_twice x q b c = fun_ext (λ j. inside (nat_eq j q) (x j))
  where
    inside : (t v : Bool) → cond t c (cond t b v) ≡ cond t c v
    inside true v = refl
    inside false v = refl

pub put_own : (x : Bits) (q : ℕ) (b : Bool) → b ≡ x q → put x q b ≡ x
put_own x q b e = fun_ext (λ j. inside j)
  where
    inside : (j : ℕ) → cond (nat_eq j q) b (x j) ≡ x j
    inside j = grind (arith, nat_tests)

pub put_comm : (x : Bits) (q r : ℕ) (b c : Bool) → r ≢ q → put (put x q b) r c ≡ put (put x r c) q b
put_comm x q r b c h = fun_ext (λ j. inside j)
  where
    inside : (j : ℕ) → cond (nat_eq j r) c (cond (nat_eq j q) b (x j)) ≡ cond (nat_eq j q) b (cond (nat_eq j r) c (x j))
    inside j = grind (arith, nat_tests)

pub bit_put : (x : Bits) (q : ℕ) (b : Bool) → put x q b q ≡ b
bit_put x q b = grind (arith, nat_tests)

pub bit_off : (x : Bits) (q i : ℕ) (b : Bool) → i ≢ q → put x q b i ≡ x i
bit_off x q i b h = grind (arith, nat_tests)

abbrev pub Off : ℕ → List Op → Type 0
Off q us = Within (λ i. i ≢ q) us

-- what does not touch a wire leaves its bit
pub hold : (us : List Op) (q : ℕ) → Off q us → (f : Bits → Ring) (x : Bits) (b : Bool) → applied us f (put x q b) ≡ applied us (λ z. f (put z q b)) x
hold us q g f x b =
    (λ i. act plus turn1 bit put (sym (place_self us) i) f (put x q b))
    ∙ act-carry plus turn1 bit put bit put (λ i. i ≢ q) (λ i. i) (λ z. put z q b) (λ z i h. bit_off z q i b h) (λ z i c h. put_comm z q i b c h) us g f x

pub held : (us : List Op) (q : ℕ) → Off q us → (f : Bits → Ring) (x : Bits) (b : Bool) → b ≡ x q → applied us f x ≡ applied us (λ z. f (put z q b)) x
held us q g f x b e = ap (applied us f) (sym (put_own x q b e)) ∙ hold us q g f x b

-- ---- sums and shares go through a applied
pub share-plus : (k l : ℕ) (v u : Ring) → share plus turn1 k l (plus v u) ≡ plus (share plus turn1 k l v) (share plus turn1 k l u)
share-plus k l v u =
    ap (turn' k) (ap (plus (plus v u)) (turn'-plus l v u) ∙ swap_inner v u (turn' l v) (turn' l u)) ∙ turn'-plus k (plus v (turn' l v)) (plus u (turn' l u))
  where
    turn' : ℕ → Ring → Ring
    turn' n w = spins turn1 n w

    turn'-plus : (n : ℕ) (p q : Ring) → spins turn1 n (plus p q) ≡ plus (spins turn1 n p) (spins turn1 n q)
    turn'-plus zero p q = refl
    turn'-plus (suc n) p q = ap turn1 (turn'-plus n p q) ∙ turn1-plus (spins turn1 n p) (spins turn1 n q)

spins-turn1 : (k : ℕ) (v : Ring) → spins turn1 k (turn1 v) ≡ turn1 (spins turn1 k v)
spins-turn1 zero v = refl
spins-turn1 (suc k) v = ap turn1 (spins-turn1 k v)

pub share-turn1 : (k l : ℕ) (v : Ring) → share plus turn1 k l (turn1 v) ≡ turn1 (share plus turn1 k l v)
share-turn1 k l v = ap (spins turn1 k) (ap (plus (turn1 v)) (spins-turn1 l v) ∙ sym (turn1-plus v (spins turn1 l v))) ∙ spins-turn1 k (plus v (spins turn1 l v))

pub applied-share : (k l : ℕ) (us : List Op) (f : Bits → Ring) (x : Bits) → share plus turn1 k l (applied us f x) ≡ applied us (λ z. share plus turn1 k l (f z)) x
applied-share k l us f x = act-hom plus turn1 plus turn1 bit put (share plus turn1 k l) (share-plus k l) (share-turn1 k l) us f x

pub applied-plus : (us : List Op) (f g : Bits → Ring) (x : Bits) → plus (applied us f x) (applied us g x) ≡ applied us (λ z. plus (f z) (g z)) x
applied-plus us f g x = act-plus bit put us f g x

-- ---- an operation moves past what does not touch its wires
abbrev pub OffOp : Op → List Op → Type 0
OffOp (U a b c q) us = Off q us
OffOp (Cx c t) us = Off c us × Off t us

pub slide : (u : Op) (us : List Op) → OffOp u us → (f : Bits → Ring) (x : Bits) → applied (u ∷ us) f x ≡ applied us (step plus turn1 bit put u f) x
slide (U a b c q) us g f x =
    let at = λ (s : Bool) (z : Bits). f (put z q s) in
    let low = λ (z : Bits). plus (share plus turn1 0 a (at false z)) (share plus turn1 (b + 2) (a + 4) (at true z)) in
    let high = λ (z : Bits). plus (share plus turn1 (c + 6) (a + 4) (at false z)) (share plus turn1 (b + c) a (at true z)) in
    (λ i. cond (x q)
    (plus (share plus turn1 (c + 6) (a + 4) (hold us q g f x false i)) (share plus turn1 (b + c) a (hold us q g f x true i)))
    (plus (share plus turn1 0 a (hold us q g f x false i)) (share plus turn1 (b + 2) (a + 4) (hold us q g f x true i))))
    ∙ (λ i. cond (x q) (both (c + 6) (a + 4) (b + c) a i) (both 0 a (b + 2) (a + 4) i))
    ∙ choose (x q) high low
    ∙ ap (λ h. applied us h x) (fun_ext (λ z. sym (settle z (x q))))
    ∙ sym (held us q g (step plus turn1 bit put (U a b c q) f) x (x q) refl)
  where
    both : (k l k' l' : ℕ) → plus (share plus turn1 k l (applied us (λ z. f (put z q false)) x)) (share plus turn1 k' l' (applied us (λ z. f (put z q true)) x))
        ≡ applied us (λ z. plus (share plus turn1 k l (f (put z q false))) (share plus turn1 k' l' (f (put z q true)))) x
    both k l k' l' = (λ i. plus (applied-share k l us (λ z. f (put z q false)) x i) (applied-share k' l' us (λ z. f (put z q true)) x i))
        ∙ applied-plus us (λ z. share plus turn1 k l (f (put z q false))) (λ z. share plus turn1 k' l' (f (put z q true))) x

    choose : (v : Bool) (h l : Bits → Ring) → cond v (applied us h x) (applied us l x) ≡ applied us (λ z. cond v (h z) (l z)) x
    choose true h l = refl
    choose false h l = refl

    settle : (z : Bits) (v : Bool) → step plus turn1 bit put (U a b c q) f (put z q v) ≡ cond v
        (plus (share plus turn1 (c + 6) (a + 4) (f (put z q false))) (share plus turn1 (b + c) a (f (put z q true))))
        (plus (share plus turn1 0 a (f (put z q false))) (share plus turn1 (b + 2) (a + 4) (f (put z q true))))
    settle z v = λ i. cond (bit_put z q v i)
        (plus (share plus turn1 (c + 6) (a + 4) (f (put_twice z q v false i))) (share plus turn1 (b + c) a (f (put_twice z q v true i))))
        (plus (share plus turn1 0 a (f (put_twice z q v false i))) (share plus turn1 (b + 2) (a + 4) (f (put_twice z q v true i))))
slide (Cx c t) us g f x =
    ap (λ v. cond (x c) v (applied us f x)) (flipped (x t) refl)
    ∙ go (x c) refl
  where
    flipped : (v : Bool) → v ≡ x t → applied us f (put x t (not (x t))) ≡ applied us (λ z. f (put z t (not (z t)))) x
    flipped v e = hold us t g.1 f x (not (x t))
        ∙ ap (λ h. applied us h x) (fun_ext (λ z. sym ((λ i. f (put (put z t (x t)) t (not (bit_put z t (x t) i)))) ∙ ap f (put_twice z t (x t) (not (x t))))))
        ∙ sym (held us t g.1 (λ z. f (put z t (not (z t)))) x (x t) refl)

    S : Bits → Ring
    S = step plus turn1 bit put (Cx c t) f

    G : Bits → Ring
    G z = f (put z t (not (z t)))

    go : (v : Bool) → v ≡ x c → cond (x c) (applied us (λ z. f (put z t (not (z t)))) x) (applied us f x) ≡ applied us S x
    go true e = (λ i. cond (sym e i) (applied us G x) (applied us f x)) ∙ held us c g.0 G x true e
        ∙ ap (λ h. applied us h x) (fun_ext (λ z. λ i. cond (sym (bit_put z c true) i) (G (put z c true)) (f (put z c true))))
        ∙ sym (held us c g.0 S x true e)
    go false e = (λ i. cond (sym e i) (applied us G x) (applied us f x)) ∙ held us c g.0 f x false e
        ∙ ap (λ h. applied us h x) (fun_ext (λ z. λ i. cond (sym (bit_put z c false) i) (G (put z c false)) (f (put z c false))))
        ∙ sym (held us c g.0 S x false e)

pub Turns_slide : (u : Op) (us : List Op) → OffOp u us → Turns 0 (u ∷ us) (us ++ u ∷ [])
Turns_slide u us g = record {
  law = λ f x.
      (λ i. double (same_weight u i) (sym (slide u us g f x ∙ sym (ap (λ h. h x) (applied-append us (u ∷ []) f))) i));
}
  where
    same_weight : (u : Op) → weight (u ∷ us) ≡ weight (us ++ u ∷ [])
    same_weight (U a b c q) = sym (weight-append us (U a b c q ∷ []) ∙ omega arith)
    same_weight (Cx c t) = sym (weight-append us (Cx c t ∷ []) ∙ omega arith)

pub Turns_slide_back : (u : Op) (us : List Op) → OffOp u us → Turns 0 (us ++ u ∷ []) (u ∷ us)
Turns_slide_back u us g = record { law = λ f x. sym ((Turns_slide u us g).law f x) }
