-- Laws of `Realises`.
--     BothCases               its two cases as one equation
--     from_cases, to_cases    between that equation and `Realises`
--     OnLists                 the working form on bit lists: R does to each function of the bits what S does, up to w^k
--     to_lists, from_lists    between `OnLists` and `Realises`
--     realises_from           from the working form on all wires at once;  realises_by: with any placings by the lists
--     Realises_itself         a list realises itself
--     Realises_same           a list with the same amplitudes up to w^k realises the other
--     Realises_chain          what realises a realisation realises the first list
--     Realises_composed       the same where wires have moved: the placements compose
--     Realises_joined         joined lists
--     Realises_back           a list of the same unitary in the place of what realises
use Rattle.std.proofs.Common.{◌≡◌, ℕ, zero, suc, ◌+◌, ◌-◌, ◌%◌, ◌<◌, ◌≤◌, Bool, true, false, cond, List, [], ◌∷◌, ◌++◌, length, take, drop, refl, sym, ◌∙◌, ap, arith}
use Rattle.std.proofs.Math.Path.{fun_ext}
use Rattle.std.proofs.Math.Seq.{take-length, take-append_seam, drop-append_seam}
use Rattle.std.proofs.Math.ListN.{drop_of_length-le}
use Rattle.std.proofs.Math.Nat.{add_comm}
use Rattle.std.proofs.lemmas.List.{length-append, length-drop, length-take-le, take-append-drop}
use Rattle.unitary_model.specs.declared.Op.{Op}
use Rattle.unitary_model.specs.declared.Op.TheVariants.{U, Cx}
use Rattle.unitary_model.specs.Ring.{Ring, nought, unit, plus, turn1, turn, double, mul}
use Rattle.unitary_model.specs.Operations.{weight, WiresBelow}
use Rattle.unitary_model.specs.Acts.{applied}
use Rattle.unitary_model.specs.Amplitude.{bit_of, with_bit, same_bits, amplitude}
use Rattle.unitary_model.specs.Sums.{sum_over, all_bits}
use Rattle.unitary_model.specs.SameUpTo.{SameUpTo}
use Rattle.unitary_model.specs.Placement.{IsPlacement, composed, identity, moved}
use Rattle.unitary_model.specs.Realises.{Realises}
use Rattle.unitary_model.specs.Realised.{Placing, PlacedBy, Realised}
use Rattle.unitary_model.proofs.RingLaws.{turn_cancel, turn_same, turn-turn, turn-plus, turn-nought, turn-mul, double-plus, double-turn, double-double, double-swap, double-nought, double-mul, double_cancel}
use Rattle.unitary_model.proofs.ActLaws.{act-append, act-double, act-turn, act-nought}
use Rattle.unitary_model.proofs.TurnsLaws.{weight-append}
use Rattle.unitary_model.proofs.AmplitudeForm.{listed, amplitude_form, amplitude-act}
use Rattle.unitary_model.proofs.AmplitudeLaws.{front, listed-applied, listed-whole, turn_mod}
use Rattle.unitary_model.proofs.JoinedAmplitude.{listed-same, listed-sums, sum_over-append, sum_over-map}
use Rattle.unitary_model.proofs.PlacementLaws.{carried-unique, bit_of-front, placing, carried-list, bits-carried, same_bits-refl, same_bits-eq, same_bits-append, same_moved, moved_back, length-moved, length-moved_back, moved-moved_back, identity_placement, moved-identity, composed_placement, moved-composed}

-- ---- both cases at once
abbrev pub BothCases : List Op → ℕ → List Op → ℕ → List ℕ → List ℕ → ℕ → Type 0
BothCases S n R size p q k = (x y : List Bool) → length x ≡ size → length y ≡ size →
    double (weight S) (amplitude R (moved size p x) (moved size q y)) ≡ turn k (double (weight R) (cond (same_bits (drop n x) (drop n y)) (amplitude S (take n x) (take n y)) nought))

none : (k m : ℕ) → turn k (double m nought) ≡ nought
none k m = ap (turn k) (double-nought m) ∙ turn-nought k

pub from_cases : (S R : List Op) (n size : ℕ) (p q : List ℕ) (k : ℕ) → n ≤ size → k < 8 → IsPlacement size p → IsPlacement size q → BothCases S n R size p q k → Realises S n R size p q k
from_cases S R n size p q k le lk hp hq h = record {
  fits = le;
  below = lk;
  starts = hp;
  ends = hq;
  agree = λ x y ex ey e. h x y ex ey ∙ chosen x y true (ap (λ z. same_bits z (drop n y)) e ∙ same_bits-refl (drop n y));
  elsewhere = λ x y ex ey ne. double_cancel (weight S) _ _ (h x y ex ey ∙ chosen x y false (differ (drop n x) (drop n y) ne) ∙ none k (weight R) ∙ sym (double-nought (weight S)));
}
  where
    chosen : (x y : List Bool) (b : Bool) → same_bits (drop n x) (drop n y) ≡ b → turn k (double (weight R) (cond (same_bits (drop n x) (drop n y)) (amplitude S (take n x) (take n y)) nought)) ≡ turn k (double (weight R) (cond b (amplitude S (take n x) (take n y)) nought))
    chosen x y b e = ap (λ c. turn k (double (weight R) (cond c (amplitude S (take n x) (take n y)) nought))) e

    differ : (u v : List Bool) → (u ≡ v → ⊥) → same_bits u v ≡ false
    differ u v ne = go (same_bits u v) refl
      where
        go : (b : Bool) → same_bits u v ≡ b → b ≡ false
        go true e = absurd (ne (same_bits-eq u v e))
        go false e = refl

pub to_cases : (S R : List Op) (n size : ℕ) (p q : List ℕ) (k : ℕ) → Realises S n R size p q k → BothCases S n R size p q k
to_cases S R n size p q k h x y ex ey = go (same_bits (drop n x) (drop n y)) refl
  where
    clash : same_bits (drop n x) (drop n y) ≡ false → drop n x ≡ drop n y → ⊥
    clash e f = let g : true ≡ false = sym (ap (λ z. same_bits z (drop n y)) f ∙ same_bits-refl (drop n y)) ∙ e in cc

    go : (b : Bool) → same_bits (drop n x) (drop n y) ≡ b →
        double (weight S) (amplitude R (moved size p x) (moved size q y)) ≡ turn k (double (weight R) (cond b (amplitude S (take n x) (take n y)) nought))
    go true e = h.agree x y ex ey (same_bits-eq (drop n x) (drop n y) e)
    go false e = ap (double (weight S)) (h.elsewhere x y ex ey (clash e)) ∙ double-nought (weight S) ∙ sym (none k (weight R))

-- ---- the working form on bit lists
pub record OnLists (S : List Op) (n : ℕ) (R : List Op) (size : ℕ) (p q : List ℕ) (k : ℕ) : Type 0 where
  pub law : (f : List Bool → Ring) (x : List Bool) → length x ≡ size →
      double (weight S) (listed R f (moved size p x)) ≡ turn k (double (weight R) (listed S (λ z. f (moved size q (z ++ drop n x))) (take n x)))

length-take : (n size : ℕ) (x : List Bool) → n ≤ size → length x ≡ size → length (take n x) ≡ n
length-take n size x le e = length-take-le n x (omega arith)

length-rest : (n size : ℕ) (z x : List Bool) → n ≤ size → length x ≡ size → length z ≡ length (take n x) → length (z ++ drop n x) ≡ size
length-rest n size z x le e f = omega (arith, length-append z (drop n x), length-drop n x, length-take n size x le e)

-- a list on the first n bits leaves the others
listed-spare : (S : List Op) (n size : ℕ) (q : List ℕ) (hq : IsPlacement size q) (x y : List Bool) → n ≤ size → length x ≡ size → length y ≡ size →
    listed S (λ z. cond (same_bits (moved size q (z ++ drop n x)) (moved size q y)) unit nought) (take n x) ≡ cond (same_bits (drop n x) (drop n y)) (amplitude S (take n x) (take n y)) nought
listed-spare S n size q hq x y le ex ey =
    listed-same S _ (λ z. cond (cond (same_bits z (take n y)) (same_bits (drop n x) (drop n y)) false) unit nought) (take n x) (λ z e. ap (λ b. cond b unit nought) (parts z e))
    ∙ go (same_bits (drop n x) (drop n y))
  where
    parts : (z : List Bool) → length z ≡ length (take n x) → same_bits (moved size q (z ++ drop n x)) (moved size q y) ≡ cond (same_bits z (take n y)) (same_bits (drop n x) (drop n y)) false
    parts z e = same_moved size q hq (z ++ drop n x) y (length-rest n size z x le ex e) ey ∙ ap (same_bits (z ++ drop n x)) (sym (take-append-drop n y))
        ∙ same_bits-append z (take n y) (drop n x) (drop n y) (e ∙ length-take n size x le ex ∙ sym (length-take n size y le ey))

    pick : (b c : Bool) → cond (cond b c false) unit nought ≡ cond c (cond b unit nought) nought
    pick true c = refl
    pick false true = refl
    pick false false = refl

    go : (b : Bool) → listed S (λ z. cond (cond (same_bits z (take n y)) b false) unit nought) (take n x) ≡ cond b (amplitude S (take n x) (take n y)) nought
    go true = ap (λ g. listed S g (take n x)) (fun_ext (λ z. pick (same_bits z (take n y)) true)) ∙ sym (amplitude-act S (take n x) (take n y))
    go false = ap (λ g. listed S g (take n x)) (fun_ext (λ z. pick (same_bits z (take n y)) false)) ∙ act-nought bit_of with_bit S (take n x)

pub from_lists : (S R : List Op) (n size : ℕ) (p q : List ℕ) (k : ℕ) → n ≤ size → k < 8 → IsPlacement size p → IsPlacement size q → OnLists S n R size p q k → Realises S n R size p q k
from_lists S R n size p q k le lk hp hq h = from_cases S R n size p q k le lk hp hq (λ x y ex ey.
    ap (double (weight S)) (amplitude-act R (moved size p x) (moved size q y))
    ∙ h.law (λ z. cond (same_bits z (moved size q y)) unit nought) x ex
    ∙ ap (λ v. turn k (double (weight R) v)) (listed-spare S n size q hq x y le ex ey))

-- a sum under a map that keeps sums
sum_over-hom : {X : Type 0} (h : Ring → Ring) → ((v u : Ring) → h (plus v u) ≡ plus (h v) (h u)) → h nought ≡ nought → (xs : List X) (f : X → Ring) → h (sum_over xs f) ≡ sum_over xs (λ x. h (f x))
sum_over-hom h p e [] f = e
sum_over-hom h p e (x ∷ xs) f = p (f x) (sum_over xs f) ∙ ap (plus (h (f x))) (sum_over-hom h p e xs f)

sum_over-bits : (n : ℕ) (f g : List Bool → Ring) → ((z : List Bool) → length z ≡ n → f z ≡ g z) → sum_over (all_bits n) f ≡ sum_over (all_bits n) g
sum_over-bits zero f g h = ap (λ v. plus v nought) (h [] refl)
sum_over-bits (suc n) f g h = split f
    ∙ (λ i. plus (sum_over-bits n (λ z. f (false ∷ z)) (λ z. g (false ∷ z)) (λ z e. h (false ∷ z) (ap (λ m. suc m) e)) i)
    (sum_over-bits n (λ z. f (true ∷ z)) (λ z. g (true ∷ z)) (λ z e. h (true ∷ z) (ap (λ m. suc m) e)) i))
    ∙ sym (split g)
  where
    split : (f : List Bool → Ring) → sum_over (all_bits (suc n)) f ≡ plus (sum_over (all_bits n) (λ z. f (false ∷ z))) (sum_over (all_bits n) (λ z. f (true ∷ z)))
    split f = sum_over-append _ _ f ∙ (λ i. plus (sum_over-map (λ z. false ∷ z) (all_bits n) f i) (sum_over-map (λ z. true ∷ z) (all_bits n) f i))

pub to_lists : (S R : List Op) (n size : ℕ) (p q : List ℕ) (k : ℕ) → Realises S n R size p q k → OnLists S n R size p q k
to_lists S R n size p q k h = record {
  law = λ f x ex.
      let X = moved size p x in
      let lX = length-moved size p x in
      let A : List Bool → Ring = λ y. listed R (λ z. cond (same_bits z y) unit nought) X in
      let B : List Bool → Ring = λ y. listed S (λ z. cond (same_bits (moved size q (z ++ drop n x)) y) unit nought) (take n x) in
      ap (double (weight S)) (listed-sums R (λ z. z) size f X (λ z e. e ∙ lX))
      ∙ sum_over-hom (double (weight S)) (double-plus (weight S)) (double-nought (weight S)) (all_bits size) (λ y. mul (A y) (f y))
      ∙ sum_over-bits size _ _ (λ y ey. double-mul (weight S) (A y) (f y) ∙ ap (λ v. mul v (f y)) (each x ex y ey) ∙ sym (turn-mul k (double (weight R) (B y)) (f y)) ∙ ap (turn k) (sym (double-mul (weight R) (B y) (f y))))
      ∙ sym (sum_over-hom (turn k) (turn-plus k) (turn-nought k) (all_bits size) (λ y. double (weight R) (mul (B y) (f y))))
      ∙ ap (turn k) (sym (sum_over-hom (double (weight R)) (double-plus (weight R)) (double-nought (weight R)) (all_bits size) (λ y. mul (B y) (f y))))
      ∙ ap (λ v. turn k (double (weight R) v)) (sym (listed-sums S (λ z. moved size q (z ++ drop n x)) size f (take n x) (λ z e. length-moved size q (z ++ drop n x))));
}
  where
    each : (x : List Bool) → length x ≡ size → (y : List Bool) → length y ≡ size →
        double (weight S) (amplitude_form R (moved size p x) y) ≡ turn k (double (weight R) (listed S (λ z. cond (same_bits (moved size q (z ++ drop n x)) y) unit nought) (take n x)))
    each x ex y ey =
        let u = moved_back size q h.ends y in
        let lu = length-moved_back size q h.ends y in
        let back = moved-moved_back size q h.ends y ey in
        ap (λ y'. double (weight S) (amplitude_form R (moved size p x) y')) (sym back)
        ∙ ap (double (weight S)) (sym (amplitude-act R (moved size p x) (moved size q u)))
        ∙ to_cases S R n size p q k h x u ex lu
        ∙ ap (λ v. turn k (double (weight R) v)) (sym (listed-spare S n size q h.ends x u h.fits ex lu))
        ∙ ap (λ y'. turn k (double (weight R) (listed S (λ z. cond (same_bits (moved size q (z ++ drop n x)) y') unit nought) (take n x)))) back

-- ---- from the working form on all wires at once
below_more : (n m : ℕ) (us : List Op) → n ≤ m → WiresBelow n us → WiresBelow m us
below_more n m [] le h = tt
below_more n m (U a b c q ∷ us) le h = (omega (arith, le, h.0), below_more n m us le h.1)
below_more n m (Cx c t ∷ us) le h = (omega (arith, le, h.0), (omega (arith, le, h.1.0), below_more n m us le h.1.1))

-- a list on n wires leaves the other bits
listed-split : (S : List Op) (n size : ℕ) (f : List Bool → Ring) (x : List Bool) → n ≤ size → length x ≡ size → WiresBelow n S → listed S f x ≡ listed S (λ z. f (z ++ drop n x)) (take n x)
listed-split S n size f x le e h =
    let l = length-take n size x le e in
    ap (listed S f) (sym (take-append-drop n x)) ∙ listed-applied S n f (take n x) (drop n x) l h ∙ sym (listed-whole S n (λ z. f (z ++ drop n x)) (take n x) l h)

pub realises_from : (S R : List Op) (n size : ℕ) (p q : List ℕ) (k : ℕ) (hp : IsPlacement size p) (hq : IsPlacement size q) → n ≤ size → k < 8 → WiresBelow n S → WiresBelow size R →
    Realised S R (placing size p hp) (placing size q hq) k → Realises S n R size p q k
realises_from S R n size p q k hp hq le lk ws wr h = from_lists S R n size p q k le lk hp hq (record {
  law = λ f x ex.
      ap (double (weight S)) (listed-whole R size f (moved size p x) (length-moved size p x) wr ∙ ap (applied R (λ z. f (front size z))) (bits-carried size p hp x ex))
      ∙ h.law (λ z. f (front size z)) (bit_of x)
      ∙ ap (λ v. turn k (double (weight R) v)) (ap (λ g. applied S g (bit_of x)) (fun_ext (λ z. ap f (carried-list size q hq z (front size z) (λ i lt. sym (bit_of-front size z i lt)))))
      ∙ sym (listed-whole S size (λ z. f (moved size q z)) x ex (below_more n size S le ws))
      ∙ listed-split S n size (λ z. f (moved size q z)) x le ex ws);
})

pub realises_by : (S R : List Op) (n size : ℕ) (p q : List ℕ) (P Q : Placing) (k : ℕ) → n ≤ size → k < 8 → IsPlacement size p → IsPlacement size q → PlacedBy size p P → PlacedBy size q Q →
    WiresBelow n S → WiresBelow size R → Realised S R P Q k → Realises S n R size p q k
realises_by S R n size p q P Q k le lk hp hq gp gq ws wr h = realises_from S R n size p q k hp hq le lk ws wr (record {
  law = λ f x.
      ap (λ c. double (weight S) (applied R f (c x))) (sym (carried-unique size p hp P gp))
      ∙ h.law f x
      ∙ ap (λ c. turn k (double (weight R) (applied S (λ z. f (c z)) x))) (carried-unique size q hq Q gq);
})

-- ---- identity placements
pub Realises_itself : (S : List Op) (n size : ℕ) → n ≤ size → WiresBelow n S → Realises S n S size (identity size) (identity size) 0
Realises_itself S n size le h = from_lists S S n size (identity size) (identity size) 0 le (omega arith) (identity_placement size) (identity_placement size) (record {
  law = λ f x ex.
      ap (double (weight S)) (ap (listed S f) (moved-identity size x ex) ∙ listed-split S n size f x le ex h
      ∙ listed-same S _ _ (take n x) (λ z e. ap f (sym (moved-identity size (z ++ drop n x) (length-rest n size z x le ex e)))));
})

whole : (n : ℕ) (x : List Bool) → length x ≡ n → take n x ≡ x
whole n x e = ap (λ m. take m x) (sym e) ∙ take-length x

pub Realises_same : (A B : List Op) (n k : ℕ) → k < 8 → SameUpTo k n A B → Realises A n B n (identity n) (identity n) k
Realises_same A B n k lk h = from_cases A B n n (identity n) (identity n) k (omega arith) lk (identity_placement n) (identity_placement n) (λ x y ex ey.
    (λ i. double (weight A) (amplitude B (moved-identity n x ex i) (moved-identity n y ey i)))
    ∙ h.law x y ex ey
    ∙ (λ i. turn k (double (weight B) (cond (same_bits (none_left x ex i) (none_left y ey i)) (amplitude A (sym (whole n x ex) i) (sym (whole n y ey) i)) nought))))
  where
    none_left : (x : List Bool) → length x ≡ n → [] ≡ drop n x
    none_left x e = sym (drop_of_length-le x (omega (arith, e)))

pub same_Realises : (A B : List Op) (n k : ℕ) → Realises A n B n (identity n) (identity n) k → SameUpTo k n A B
same_Realises A B n k h = record {
  law = λ x y ex ey.
      (λ i. double (weight A) (amplitude B (sym (moved-identity n x ex) i) (sym (moved-identity n y ey) i)))
      ∙ h.agree x y ex ey (none_left x ex ∙ sym (none_left y ey))
      ∙ (λ i. turn k (double (weight B) (amplitude A (whole n x ex i) (whole n y ey i))));
}
  where
    none_left : (x : List Bool) → length x ≡ n → drop n x ≡ []
    none_left x e = drop_of_length-le x (omega (arith, e))

-- ---- one realisation after another
turned_twice : (i j m n : ℕ) (v : Ring) → i < 8 → j < 8 → turn j (double n (turn i (double m v))) ≡ turn ((i + j) % 8) (double m (double n v))
turned_twice i j m n v hi hj =
    ap (turn j) (double-turn n i (double m v)) ∙ turn-turn j i (double n (double m v))
    ∙ (λ z. turn (add_comm j i z) (double-swap n m v z)) ∙ sym (turn_mod (i + j) (double m (double n v)) (omega arith))

pub Realises_chain : (S Q R : List Op) (n size : ℕ) (p q : List ℕ) (i j : ℕ) → Realises S n Q n (identity n) (identity n) i → Realises Q n R size p q j → Realises S n R size p q ((i + j) % 8)
Realises_chain S Q R n size p q i j a b = from_cases S R n size p q ((i + j) % 8) b.fits (omega arith) b.starts b.ends (λ x y ex ey.
    let r = amplitude R (moved size p x) (moved size q y) in
    let c = same_bits (drop n x) (drop n y) in
    let s = cond c (amplitude S (take n x) (take n y)) nought in
    double_cancel (weight Q) _ _ (
    double-swap (weight Q) (weight S) r
    ∙ ap (double (weight S)) (to_cases Q R n size p q j b x y ex ey)
    ∙ double-turn (weight S) j (double (weight R) (cond c (amplitude Q (take n x) (take n y)) nought))
    ∙ ap (turn j) (double-swap (weight S) (weight R) (cond c (amplitude Q (take n x) (take n y)) nought) ∙ ap (double (weight R)) (inner c (take n x) (take n y) (length-take n size x b.fits ex) (length-take n size y b.fits ey)))
    ∙ turned_twice i j (weight Q) (weight R) s a.below b.below
    ∙ sym (double-turn (weight Q) ((i + j) % 8) (double (weight R) s))))
  where
    inner : (c : Bool) (u v : List Bool) → length u ≡ n → length v ≡ n → double (weight S) (cond c (amplitude Q u v) nought) ≡ turn i (double (weight Q) (cond c (amplitude S u v) nought))
    inner true u v eu ev = (same_Realises S Q n i a).law u v eu ev
    inner false u v eu ev = double-nought (weight S) ∙ sym (none i (weight Q))

pub Realises_composed : (S Q R : List Op) (n size : ℕ) (p q r s : List ℕ) (i j : ℕ) → Realises S n Q size p q i → Realises Q size R size r s j →
    Realises S n R size (composed p r) (composed q s) ((i + j) % 8)
Realises_composed S Q R n size p q r s i j a b =
    from_cases S R n size (composed p r) (composed q s) ((i + j) % 8) a.fits (omega arith) (composed_placement size p r a.starts b.starts) (composed_placement size q s a.ends b.ends) (λ x y ex ey.
    let u = moved size p x in
    let v = moved size q y in
    let t = cond (same_bits (drop n x) (drop n y)) (amplitude S (take n x) (take n y)) nought in
    (λ z. double (weight S) (amplitude R (moved-composed size p r a.starts b.starts x z) (moved-composed size q s a.ends b.ends y z)))
    ∙ double_cancel (weight Q) _ _ (
    double-swap (weight Q) (weight S) (amplitude R (moved size r u) (moved size s v))
    ∙ ap (double (weight S)) (second u v (length-moved size p x) (length-moved size q y))
    ∙ double-turn (weight S) j (double (weight R) (amplitude Q u v))
    ∙ ap (turn j) (double-swap (weight S) (weight R) (amplitude Q u v) ∙ ap (double (weight R)) (to_cases S Q n size p q i a x y ex ey))
    ∙ turned_twice i j (weight Q) (weight R) t a.below b.below
    ∙ sym (double-turn (weight Q) ((i + j) % 8) (double (weight R) t))))
  where
    none_left : (x : List Bool) → length x ≡ size → drop size x ≡ []
    none_left x e = drop_of_length-le x (omega (arith, e))

    second : (u v : List Bool) → length u ≡ size → length v ≡ size → double (weight Q) (amplitude R (moved size r u) (moved size s v)) ≡ turn j (double (weight R) (amplitude Q u v))
    second u v eu ev = b.agree u v eu ev (none_left u eu ∙ sym (none_left v ev)) ∙ (λ z. turn j (double (weight R) (amplitude Q (whole size u eu z) (whole size v ev z))))

pub Realises_joined : (A B R T : List Op) (n size : ℕ) (p q r : List ℕ) (i j : ℕ) → Realises A n R size p q i → Realises B n T size q r j → Realises (A ++ B) n (R ++ T) size p r ((i + j) % 8)
Realises_joined A B R T n size p q r i j a b = from_lists (A ++ B) (R ++ T) n size p r ((i + j) % 8) a.fits (omega arith) a.starts b.ends (record {
  law = λ f x ex.
      let h : List Bool → Ring = λ z. f (moved size r (z ++ drop n x)) in
      let v = listed A (listed B h) (take n x) in
      (λ z. double (weight-append A B z) (act-append plus turn1 bit_of with_bit R T f z (moved size p x)))
      ∙ sym (double-double (weight A) (weight B) (listed R (listed T f) (moved size p x))) ∙ double-swap (weight A) (weight B) (listed R (listed T f) (moved size p x))
      ∙ ap (double (weight B)) ((to_lists A R n size p q i a).law (listed T f) x ex)
      ∙ double-turn (weight B) i (double (weight R) (listed A (λ z. listed T f (moved size q (z ++ drop n x))) (take n x)))
      ∙ ap (turn i) (double-swap (weight B) (weight R) (listed A (λ z. listed T f (moved size q (z ++ drop n x))) (take n x)) ∙ ap (double (weight R)) (
      act-double bit_of with_bit (weight B) A (λ z. listed T f (moved size q (z ++ drop n x))) (take n x)
      ∙ listed-same A _ (λ z. turn j (double (weight T) (listed B h z))) (take n x) (λ z e. second f x ex z e)
      ∙ sym (act-turn bit_of with_bit j A (λ z. double (weight T) (listed B h z)) (take n x)) ∙ ap (turn j) (sym (act-double bit_of with_bit (weight T) A (listed B h) (take n x)))))
      ∙ ap (turn i) (double-turn (weight R) j (double (weight T) v))
      ∙ turn-turn i j (double (weight R) (double (weight T) v))
      ∙ sym (turn_mod (i + j) (double (weight R) (double (weight T) v)) (omega (arith, a.below, b.below)))
      ∙ ap (turn ((i + j) % 8)) (double-double (weight R) (weight T) v)
      ∙ (λ z. turn ((i + j) % 8) (double (sym (weight-append R T) z) (sym (act-append plus turn1 bit_of with_bit A B h) z (take n x))));
})
  where
    second : (f : List Bool → Ring) (x : List Bool) → length x ≡ size → (z : List Bool) → length z ≡ length (take n x) →
        double (weight B) (listed T f (moved size q (z ++ drop n x))) ≡ turn j (double (weight T) (listed B (λ u. f (moved size r (u ++ drop n x))) z))
    second f x ex z e =
        let m : n ≡ length z = sym (e ∙ length-take n size x a.fits ex) in
        let rest : drop n (z ++ drop n x) ≡ drop n x = ap (λ k. drop k (z ++ drop n x)) m ∙ drop-append_seam z (drop n x) in
        let front : take n (z ++ drop n x) ≡ z = ap (λ k. take k (z ++ drop n x)) m ∙ take-append_seam z (drop n x) in
        (to_lists B T n size q r j b).law f (z ++ drop n x) (length-rest n size z x a.fits ex e)
        ∙ (λ k. turn j (double (weight T) (listed B (λ u. f (moved size r (u ++ rest k))) (front k))))

-- ---- a list of the same unitary in the place of what realises
pub Realises_back : (S Q R : List Op) (n size : ℕ) (p q : List ℕ) (i r : ℕ) → r < 8 → Realises S n Q size p q i → SameUpTo r size R Q → Realises S n R size p q ((i + (8 - r)) % 8)
Realises_back S Q R n size p q i r lt h b = record {
  fits = h.fits;
  below = omega arith;
  starts = h.starts;
  ends = h.ends;
  agree = λ x y ex ey d.
      let s : Ring = amplitude S (take n x) (take n y) in
      let c : Ring = amplitude Q (moved size p x) (moved size q y) in
      let a : Ring = amplitude R (moved size p x) (moved size q y) in
      let m : ℕ = (i + (8 - r)) % 8 in
      let back : double (weight R) c ≡ turn r (double (weight Q) a) = b.law (moved size p x) (moved size q y) (length-moved size p x) (length-moved size q y) in
      double_cancel (weight Q) _ _ (turn_cancel r _ _ (
      ap (turn r) (double-swap (weight Q) (weight S) a) ∙ sym (double-turn (weight S) r (double (weight Q) a)) ∙ ap (double (weight S)) (sym back) ∙ double-swap (weight S) (weight R) c
      ∙ ap (double (weight R)) (h.agree x y ex ey d) ∙ double-turn (weight R) i (double (weight Q) s) ∙ ap (turn i) (double-swap (weight R) (weight Q) s)
      ∙ turn_same i (r + m) (double (weight Q) (double (weight R) s)) (around i r lt) ∙ sym (turn-turn r m (double (weight Q) (double (weight R) s)))
      ∙ ap (turn r) (sym (double-turn (weight Q) m (double (weight R) s)))));
  elsewhere = λ x y ex ey d.
      let c : Ring = amplitude Q (moved size p x) (moved size q y) in
      let a : Ring = amplitude R (moved size p x) (moved size q y) in
      let back : double (weight R) c ≡ turn r (double (weight Q) a) = b.law (moved size p x) (moved size q y) (length-moved size p x) (length-moved size q y) in
      double_cancel (weight Q) _ _ (turn_cancel r _ _ (sym back ∙ ap (double (weight R)) (h.elsewhere x y ex ey d) ∙ double-nought (weight R) ∙ sym (turn-nought r) ∙ ap (turn r) (sym (double-nought (weight Q)))));
}
  where
    around : (i r : ℕ) → r < 8 → i % 8 ≡ (r + (i + (8 - r)) % 8) % 8
    around i r lt = omega arith
