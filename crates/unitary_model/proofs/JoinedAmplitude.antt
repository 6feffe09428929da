-- The amplitude of a joined list, as a sum over the bits in the middle.
--     length-with_bit, listed-same    only bits of the same length matter
--     listed-sum              a list acts on a sum of functions
--     sum_over-append, sum_over-map   sums over joined and mapped lists
--     picked                  a function as the sum of its values
--     listed-sums             a list acts on that sum
--     amplitude-append        the amplitude of a joined list
use Rattle.std.proofs.Common.{◌≡◌, ℕ, zero, suc, ◌+◌, Bool, true, false, cond, not, List, [], ◌∷◌, ◌++◌, map, length, refl, sym, ◌∙◌, ap, arith}
use Rattle.std.proofs.Math.Path.{fun_ext}
use Rattle.unitary_model.specs.declared.Op.{Op}
use Rattle.unitary_model.specs.declared.Op.TheVariants.{U, Cx}
use Rattle.unitary_model.specs.Ring.{Ring, nought, unit, plus, turn1, mul}
use Rattle.unitary_model.specs.Acts.{share}
use Rattle.unitary_model.specs.Sums.{sum_over, all_bits}
use Rattle.unitary_model.specs.Amplitude.{bit_of, with_bit, same_bits, amplitude}
use Rattle.unitary_model.proofs.RingLaws.{plus_assoc, nought-plus, plus-nought, nought-mul, unit-mul}
use Rattle.unitary_model.proofs.AmplitudeForm.{listed, amplitude-act}
use Rattle.unitary_model.proofs.ActLaws.{act-append, act-nought, act-plus, act-mul}

pub length-with_bit : (x : List Bool) (q : ℕ) (b : Bool) → length (with_bit x q b) ≡ length x
length-with_bit [] q b = refl
length-with_bit (a ∷ x) zero b = refl
length-with_bit (a ∷ x) (suc q) b = ap (λ n. suc n) (length-with_bit x q b)

-- what a function is at bits of another length does not matter
pub listed-same : (us : List Op) (f g : List Bool → Ring) (x : List Bool) → ((z : List Bool) → length z ≡ length x → f z ≡ g z) → listed us f x ≡ listed us g x
listed-same [] f g x e = e x refl
listed-same (Cx c t ∷ us) f g x e = λ i. cond (bit_of x c)
    (listed-same us f g (with_bit x t (not (bit_of x t))) (λ z h. e z (h ∙ length-with_bit x t (not (bit_of x t)))) i)
    (listed-same us f g x e i)
listed-same (U a b c q ∷ us) f g x e =
    let r = λ (s : Bool). listed-same us f g (with_bit x q s) (λ z h. e z (h ∙ length-with_bit x q s)) in
    (λ i. cond (bit_of x q)
    (plus (share plus turn1 (c + 6) (a + 4) (r false i)) (share plus turn1 (b + c) a (r true i)))
    (plus (share plus turn1 0 a (r false i)) (share plus turn1 (b + 2) (a + 4) (r true i))))

pub listed-sum : (us : List Op) (zs : List (List Bool)) (g : List Bool → List Bool → Ring) (x : List Bool) → listed us (λ u. sum_over zs (λ z. g z u)) x ≡ sum_over zs (λ z. listed us (g z) x)
listed-sum us [] g x = act-nought bit_of with_bit us x
listed-sum us (z ∷ zs) g x = sym (act-plus bit_of with_bit us (g z) (λ u. sum_over zs (λ y. g y u)) x) ∙ ap (plus (listed us (g z) x)) (listed-sum us zs g x)

-- ---- a function as the sum of its values
pub sum_over-append : {X : Type 0} (xs ys : List X) (f : X → Ring) → sum_over (xs ++ ys) f ≡ plus (sum_over xs f) (sum_over ys f)
sum_over-append [] ys f = sym (nought-plus (sum_over ys f))
sum_over-append (x ∷ xs) ys f = ap (plus (f x)) (sum_over-append xs ys f) ∙ sym (plus_assoc (f x) (sum_over xs f) (sum_over ys f))

pub sum_over-map : {X Y : Type 0} (h : X → Y) (xs : List X) (f : Y → Ring) → sum_over (map h xs) f ≡ sum_over xs (λ x. f (h x))
sum_over-map h [] f = refl
sum_over-map h (x ∷ xs) f = ap (plus (f (h x))) (sum_over-map h xs f)

sum_over-none : {X : Type 0} (xs : List X) (f : X → Ring) → sum_over xs (λ x. mul nought (f x)) ≡ nought
sum_over-none [] f = refl
sum_over-none (x ∷ xs) f = (λ i. plus (nought-mul (f x) i) (sum_over-none xs f i)) ∙ plus-nought nought

pub picked : (u : List Bool) (n : ℕ) (f : List Bool → Ring) → length u ≡ n → f u ≡ sum_over (all_bits n) (λ z. mul (cond (same_bits u z) unit nought) (f z))
picked [] zero f e = sym ((λ i. plus (unit-mul (f []) i) nought) ∙ plus-nought (f []))
picked [] (suc n) f e = absurd (omega arith)
picked (b ∷ u) zero f e = absurd (omega arith)
picked (b ∷ u) (suc n) f e = go b (λ g. picked u n g (omega arith))
  where
    part : (a b : Bool) → sum_over (map (λ z. a ∷ z) (all_bits n)) (λ z. mul (cond (same_bits (b ∷ u) z) unit nought) (f z)) ≡ sum_over (all_bits n) (λ z. mul (cond (same_bits (b ∷ u) (a ∷ z)) unit nought) (f (a ∷ z)))
    part a b = sum_over-map (λ z. a ∷ z) (all_bits n) (λ z. mul (cond (same_bits (b ∷ u) z) unit nought) (f z))

    go : (b : Bool) → ((g : List Bool → Ring) → g u ≡ sum_over (all_bits n) (λ z. mul (cond (same_bits u z) unit nought) (g z))) →
        f (b ∷ u) ≡ sum_over (all_bits (suc n)) (λ z. mul (cond (same_bits (b ∷ u) z) unit nought) (f z))
    go false r = sym (sum_over-append (map (λ z. false ∷ z) (all_bits n)) (map (λ z. true ∷ z) (all_bits n)) (λ z. mul (cond (same_bits (false ∷ u) z) unit nought) (f z))
        ∙ (λ i. plus (part false false i) ((part true false ∙ sum_over-none (all_bits n) (λ z. f (true ∷ z))) i)) ∙ plus-nought _ ∙ sym (r (λ z. f (false ∷ z))))
    go true r = sym (sum_over-append (map (λ z. false ∷ z) (all_bits n)) (map (λ z. true ∷ z) (all_bits n)) (λ z. mul (cond (same_bits (true ∷ u) z) unit nought) (f z))
        ∙ (λ i. plus ((part false true ∙ sum_over-none (all_bits n) (λ z. f (false ∷ z))) i) (part true true i)) ∙ nought-plus _ ∙ sym (r (λ z. f (true ∷ z))))

-- a function of bits carried by g, as the sum of its values
pub listed-sums : (us : List Op) (g : List Bool → List Bool) (size : ℕ) (f : List Bool → Ring) (x : List Bool) → ((z : List Bool) → length z ≡ length x → length (g z) ≡ size) →
    listed us (λ z. f (g z)) x ≡ sum_over (all_bits size) (λ y. mul (listed us (λ z. cond (same_bits (g z) y) unit nought) x) (f y))
listed-sums us g size f x e =
    let d : List Bool → List Bool → Ring = λ y z. cond (same_bits (g z) y) unit nought in
    listed-same us (λ z. f (g z)) (λ z. sum_over (all_bits size) (λ y. mul (d y z) (f y))) x (λ z h. picked (g z) size f (e z h))
    ∙ listed-sum us (all_bits size) (λ y z. mul (d y z) (f y)) x
    ∙ ap (sum_over (all_bits size)) (fun_ext (λ y. sym (act-mul bit_of with_bit us (d y) (f y) x)))

pub amplitude-append : (us vs : List Op) (x y : List Bool) → amplitude (us ++ vs) x y ≡ sum_over (all_bits (length x)) (λ z. mul (amplitude us x z) (amplitude vs z y))
amplitude-append us vs x y =
    amplitude-act (us ++ vs) x y
    ∙ ap (λ g. g x) (act-append plus turn1 bit_of with_bit us vs (λ z. cond (same_bits z y) unit nought))
    ∙ ap (λ g. listed us g x) (fun_ext (λ z. sym (amplitude-act vs z y)))
    ∙ listed-sums us (λ z. z) (length x) (λ z. amplitude vs z y) x (λ z h. h)
    ∙ ap (sum_over (all_bits (length x))) (fun_ext (λ z. ap (λ v. mul v (amplitude vs z y)) (sym (amplitude-act us x z))))
