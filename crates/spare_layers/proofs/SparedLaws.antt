-- Spare wires that start at zero.
--     clean-put               a bit below n keeps the others clean
--     applied-clean           a list on wires below n sees functions at clean bits alone
--     Cleanly_turns, Cleanly_itself, Cleanly_then    from `Turns`; one behind the other: the powers add up
--     Cleanly_spared          from all wires to bit lists
--     IsSpared_chain          what spares a list that is another up to w^i
use Rattle.std.proofs.Common.{◌≡◌, ℕ, zero, suc, ◌+◌, ◌%◌, ◌<◌, ◌≤◌, Bool, true, false, not, cond, List, [], ◌∷◌, ◌++◌, length, refl, sym, subst, ◌∙◌, ap, arith}
use Rattle.std.specs.Prelude.{nat_eq}
use Rattle.std.proofs.Math.Nat.{add_comm}
use Rattle.std.proofs.Math.Path.{fun_ext}
use Rattle.std.proofs.lemmas.Bool.Decides.{nat_tests}
use Rattle.std.proofs.lemmas.List.{length-append, length-replicate}
use Rattle.unitary_model.specs.declared.Op.{Op}
use Rattle.unitary_model.specs.declared.Op.TheVariants.{U, Cx}
use Rattle.unitary_model.specs.Ring.{Ring, nought, unit, plus, turn1, turn, double}
use Rattle.unitary_model.specs.Operations.{weight, WiresBelow}
use Rattle.unitary_model.specs.Acts.{Bits, bit, put, share, applied, Turns}
use Rattle.unitary_model.specs.Amplitude.{bit_of, same_bits, amplitude}
use Rattle.unitary_model.specs.SameUpTo.{SameUpTo}
use Rattle.spare_layers.specs.Spared.{IsSpared, IsClean, Cleanly, zeros}
use Rattle.unitary_model.proofs.RingLaws.{turn-turn, double-turn, double-double, double-swap, double_cancel, double-nought, turn-nought}
use Rattle.unitary_model.proofs.ActLaws.{applied-append, act-nought}
use Rattle.unitary_model.proofs.TurnsLaws.{weight-append, applied-double, applied-turn}
use Rattle.unitary_model.proofs.AmplitudeLaws.{front, listed-applied, listed-whole, amplitude-applied, turn_mod}

-- ---- clean bits
pub clean-put : (n q : ℕ) (x : Bits) (b : Bool) → q < n → IsClean n x → IsClean n (put x q b)
clean-put n q x b l c p g = (λ i. cond (off i) b (x p)) ∙ c p g
  where
    off : nat_eq p q ≡ false
    off = let h : q < n = l in let e : n ≤ p = g in grind (arith, nat_tests)

pub applied-clean : (n : ℕ) (us : List Op) (f g : Bits → Ring) → WiresBelow n us → ((z : Bits) → IsClean n z → f z ≡ g z) → (x : Bits) → IsClean n x → applied us f x ≡ applied us g x
applied-clean n [] f g w h x c = h x c
applied-clean n (Cx p t ∷ us) f g w h x c =
    (λ i. cond (x p)
    (applied-clean n us f g w.1.1 h (put x t (not (x t))) (clean-put n t x (not (x t)) w.1.0 c) i)
    (applied-clean n us f g w.1.1 h x c i))
applied-clean n (U a b d q ∷ us) f g w h x c =
    let r = λ (e : Bool). applied-clean n us f g w.1 h (put x q e) (clean-put n q x e w.0 c) in
    (λ i. cond (x q)
    (plus (share plus turn1 (d + 6) (a + 4) (r false i)) (share plus turn1 (b + d) a (r true i)))
    (plus (share plus turn1 0 a (r false i)) (share plus turn1 (b + 2) (a + 4) (r true i))))

-- ---- one behind the other
pub Cleanly_turns : (n k : ℕ) (A B : List Op) → Turns k A B → Cleanly n k A B
Cleanly_turns n k A B h = record { law = λ f x c. h.law f x }

pub Cleanly_itself : (n : ℕ) (A : List Op) → Cleanly n 0 A A
Cleanly_itself n A = record { law = λ f x c. refl }

pub Cleanly_then : (n j k : ℕ) (A B C D : List Op) → WiresBelow n A → Cleanly n j A B → Cleanly n k C D → Cleanly n (j + k) (A ++ C) (B ++ D)
Cleanly_then n j k A B C D w a b = record {
  law = λ f x c.
      (λ i. double (weight-append A C i) (applied-append B D f i x))
      ∙ over (weight A) (weight C) (applied B (applied D f) x)
      ∙ ap (double (weight C)) (a.law (applied D f) x c)
      ∙ double-turn (weight C) j (double (weight B) (applied A (applied D f) x))
      ∙ ap (turn j) (double-swap (weight C) (weight B) (applied A (applied D f) x)
      ∙ ap (double (weight B)) (applied-double (weight C) A (applied D f) x
      ∙ applied-clean n A (λ z. double (weight C) (applied D f z)) (λ z. turn k (double (weight D) (applied C f z))) w (λ z e. b.law f z e) x c
      ∙ sym (applied-turn k A (λ z. double (weight D) (applied C f z)) x)
      ∙ ap (turn k) (sym (applied-double (weight D) A (applied C f) x)))
      ∙ double-turn (weight B) k (double (weight D) (applied A (applied C f) x)))
      ∙ turn-turn j k (double (weight B) (double (weight D) (applied A (applied C f) x)))
      ∙ ap (turn (j + k)) (double-double (weight B) (weight D) (applied A (applied C f) x)
      ∙ (λ i. double (sym (weight-append B D) i) (sym (applied-append A C f) i x)));
}
  where
    over : (m l : ℕ) (v : Ring) → double (m + l) v ≡ double l (double m v)
    over m l v = sym (double-double m l v) ∙ double-swap m l v

pub Cleanly_mod : (n k : ℕ) (A B : List Op) → k < 16 → Cleanly n k A B → Cleanly n (k % 8) A B
Cleanly_mod n k A B l a = record { law = λ f x c. a.law f x c ∙ sym (turn_mod k (double (weight B) (applied A f x)) l) }

-- ---- bit lists
bits-clean : (x : List Bool) (m : ℕ) → IsClean (length x) (bit_of (x ++ zeros m))
bits-clean [] zero q g = refl
bits-clean [] (suc m) zero g = refl
bits-clean [] (suc m) (suc q) g = bits-clean [] m q (omega arith)
bits-clean (b ∷ x) m zero g = absurd (omega arith)
bits-clean (b ∷ x) m (suc q) g = bits-clean x m q (omega arith)

same-self : (z : List Bool) → same_bits z z ≡ true
same-self [] = refl
same-self (true ∷ z) = same-self z
same-self (false ∷ z) = same-self z

same-eq : (x y : List Bool) → same_bits x y ≡ true → x ≡ y
same-eq [] [] h = refl
same-eq [] (b ∷ y) h = cc
same-eq (a ∷ x) [] h = go a h
  where
    go : (b : Bool) → same_bits (b ∷ x) [] ≡ true → b ∷ x ≡ []
    go true e = cc
    go false e = cc
same-eq (true ∷ x) (true ∷ y) h = ap (λ z. true ∷ z) (same-eq x y h)
same-eq (true ∷ x) (false ∷ y) h = cc
same-eq (false ∷ x) (true ∷ y) h = cc
same-eq (false ∷ x) (false ∷ y) h = ap (λ z. false ∷ z) (same-eq x y h)

same-append : (a y r z : List Bool) → length a ≡ length y → same_bits (a ++ r) (y ++ z) ≡ cond (same_bits r z) (same_bits a y) false
same-append [] [] r z e = pick (same_bits r z)
  where
    pick : (b : Bool) → b ≡ cond b true false
    pick true = refl
    pick false = refl
same-append [] (b ∷ y) r z e = absurd (omega (arith, e))
same-append (b ∷ a) [] r z e = absurd (omega (arith, e))
same-append (true ∷ a) (true ∷ y) r z e = same-append a y r z (omega (arith, e))
same-append (true ∷ a) (false ∷ y) r z e = none (same_bits r z)
  where
    none : (b : Bool) → false ≡ cond b false false
    none true = refl
    none false = refl
same-append (false ∷ a) (true ∷ y) r z e = none (same_bits r z)
  where
    none : (b : Bool) → false ≡ cond b false false
    none true = refl
    none false = refl
same-append (false ∷ a) (false ∷ y) r z e = same-append a y r z (omega (arith, e))

length-front : (n : ℕ) (x : Bits) → length (front n x) ≡ n
unfolding front
length-front zero x = refl
length-front (suc n) x = ap suc (length-front n (λ i. x (suc i)))

-- S on the wires, seen from the wires and the spares
inner : (S : List Op) (n m : ℕ) (x y z : List Bool) → length x ≡ n → length y ≡ n → WiresBelow n S → WiresBelow (n + m) S → length z ≡ m
    → applied S (λ v. cond (same_bits (front (n + m) v) (y ++ z)) unit nought) (bit_of (x ++ zeros m)) ≡ cond (same_bits (zeros m) z) (amplitude S x y) nought
inner S n m x y z ex ey w wide ez =
    sym (listed-whole S (n + m) (λ v. cond (same_bits v (y ++ z)) unit nought) (x ++ zeros m) (length-append x (zeros m) ∙ (λ i. ex i + length-replicate m false i)) wide)
    ∙ listed-applied S n (λ v. cond (same_bits v (y ++ z)) unit nought) x (zeros m) ex w
    ∙ ap (λ (f : Bits → Ring). applied S f (bit_of x)) (fun_ext (λ v. ap (λ b. cond b unit nought) (same-append (front n v) y (zeros m) z (length-front n v ∙ sym ey))))
    ∙ pick (same_bits (zeros m) z)
  where
    pick : (b : Bool) → applied S (λ v. cond (cond b (same_bits (front n v) y) false) unit nought) (bit_of x) ≡ cond b (amplitude S x y) nought
    pick true = (λ i. applied S (λ v. cond (same_bits (front (sym ex i) v) y) unit nought) (bit_of x)) ∙ sym (amplitude-applied S x y (subst (λ k. WiresBelow k S) (sym ex) w))
    pick false = act-nought bit put S (bit_of x)

pub Cleanly_spared : (S R : List Op) (n m k : ℕ) → k < 8 → WiresBelow n S → WiresBelow (n + m) S → WiresBelow (n + m) R → Cleanly n k S R → IsSpared S n R m k
Cleanly_spared S R n m k l ws wide wr a = record {
  below = l;
  agree = λ x y ex ey. both x y (zeros m) ex ey (length-replicate m false)
      ∙ ap (λ b. turn k (double (weight R) (cond b (amplitude S x y) nought))) (same-self (zeros m));
  elsewhere = λ x y z ex ey ez ne. double_cancel (weight S) _ _ (both x y z ex ey ez
      ∙ ap (λ b. turn k (double (weight R) (cond b (amplitude S x y) nought))) (differ z ne)
      ∙ ap (turn k) (double-nought (weight R)) ∙ turn-nought k ∙ sym (double-nought (weight S)));
}
  where
    differ : (z : List Bool) → (z ≡ zeros m → ⊥) → same_bits (zeros m) z ≡ false
    differ z ne = go (same_bits (zeros m) z) refl
      where
        go : (b : Bool) → same_bits (zeros m) z ≡ b → b ≡ false
        go true e = absurd (ne (sym (same-eq (zeros m) z e)))
        go false e = refl

    both : (x y z : List Bool) → length x ≡ n → length y ≡ n → length z ≡ m
        → double (weight S) (amplitude R (x ++ zeros m) (y ++ z)) ≡ turn k (double (weight R) (cond (same_bits (zeros m) z) (amplitude S x y) nought))
    both x y z ex ey ez =
        let long : length (x ++ zeros m) ≡ n + m = length-append x (zeros m) ∙ (λ i. ex i + length-replicate m false i) in
        let f : Bits → Ring = λ v. cond (same_bits (front (n + m) v) (y ++ z)) unit nought in
        ap (double (weight S)) (amplitude-applied R (x ++ zeros m) (y ++ z) (subst (λ j. WiresBelow j R) (sym long) wr)
        ∙ (λ i. applied R (λ v. cond (same_bits (front (long i) v) (y ++ z)) unit nought) (bit_of (x ++ zeros m))))
        ∙ a.law f (bit_of (x ++ zeros m)) (subst (λ j. IsClean j (bit_of (x ++ zeros m))) ex (bits-clean x m))
        ∙ ap (λ v. turn k (double (weight R) v)) (inner S n m x y z ex ey ws wide ez)

pub IsSpared_chain : (S Q R : List Op) (n m i j : ℕ) → i < 8 → SameUpTo i n S Q → IsSpared Q n R m j → IsSpared S n R m ((i + j) % 8)
IsSpared_chain S Q R n m i j l a b = record {
  below = omega arith;
  agree = λ x y ex ey. double_cancel (weight Q) _ _ (
      double-swap (weight Q) (weight S) (amplitude R (x ++ zeros m) (y ++ zeros m))
      ∙ ap (double (weight S)) (b.agree x y ex ey)
      ∙ double-turn (weight S) j (double (weight R) (amplitude Q x y))
      ∙ ap (turn j) (double-swap (weight S) (weight R) (amplitude Q x y) ∙ ap (double (weight R)) (a.law x y ex ey) ∙ double-turn (weight R) i (double (weight Q) (amplitude S x y)))
      ∙ turn-turn j i (double (weight R) (double (weight Q) (amplitude S x y)))
      ∙ (λ z. turn (add_comm j i z) (double-swap (weight R) (weight Q) (amplitude S x y) z))
      ∙ sym (turn_mod (i + j) (double (weight Q) (double (weight R) (amplitude S x y))) (let e : j < 8 = b.below in omega arith))
      ∙ sym (double-turn (weight Q) ((i + j) % 8) (double (weight R) (amplitude S x y))));
  elsewhere = b.elsewhere;
}
