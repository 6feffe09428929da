-- From all wires at once to bit lists.
--     front n x               the first n of the bits x, as a list;  front_of, front_bit, front_put: its bits
--     place_self, within_below        wires that keep their names; wires below n
--     listed-applied, listed-whole    a list on bit lists is a list on all wires
--     amplitude-applied       the amplitude, so
--     Turns-amplitude         `Turns` gives `SameUpTo`
--     turn_mod                turns count modulo 8
--     SameUpTo_refl, SameUpTo_trans, Turns_sum    powers add up modulo 8
use Rattle.std.proofs.Common.{◌≡◌, ℕ, zero, suc, ◌+◌, ◌<◌, ◌≤◌, Bool, cond, List, [], ◌∷◌, ◌++◌, append-nil, map, length, refl, sym, subst, ◌∙◌, ap, arith, ◌⊎◌, inl, inr, ◌%◌}
use Rattle.std.proofs.lemmas.Bool.{cases_lt}
use Rattle.std.proofs.Math.Nat.{add_comm}
use Rattle.unitary_model.proofs.RingLaws.{double-swap, turn_wraps, turn-turn, double-turn, double_cancel}
use Rattle.std.proofs.Math.Path.{fun_ext}
use Rattle.std.specs.Prelude.{nat_eq}
use Rattle.std.proofs.lemmas.Bool.Decides.{nat_tests}
use Rattle.unitary_model.specs.declared.Op.{Op}
use Rattle.unitary_model.specs.declared.Op.TheVariants.{U, Cx}
use Rattle.unitary_model.specs.Ring.{Ring, nought, unit, plus, turn1, turn, double}
use Rattle.unitary_model.specs.Operations.{weight, WiresBelow}
use Rattle.unitary_model.specs.Acts.{Bits, bit, put, applied, Turns, place}
use Rattle.unitary_model.specs.Amplitude.{bit_of, with_bit, same_bits, amplitude}
use Rattle.unitary_model.specs.SameUpTo.{SameUpTo}
use Rattle.unitary_model.proofs.AmplitudeForm.{listed, amplitude-act}
use Rattle.unitary_model.proofs.ActLaws.{act-carry, Within}
use Rattle.unitary_model.proofs.TurnsLaws.{Turns_trans}

-- the first n bits
unfoldable pub front : ℕ → Bits → List Bool
front zero x = []
front (suc n) x = x 0 ∷ front n (λ i. x (suc i))

pub front_of : (x : List Bool) → front (length x) (bit_of x) ≡ x
unfolding front
front_of [] = refl
front_of (b ∷ x) = ap (λ r. b ∷ r) (front_of x)

pub front_bit : (n : ℕ) (x : Bits) (r : List Bool) (i : ℕ) → i < n → bit_of (front n x ++ r) i ≡ x i
unfolding front
front_bit zero x r i h = absurd (omega arith)
front_bit (suc n) x r zero h = refl
front_bit (suc n) x r (suc i) h = front_bit n (λ j. x (suc j)) r i (omega arith)

put_next : (x : Bits) (i : ℕ) (b : Bool) → ◌≡◌ {A = Bits} (λ j. put x (suc i) b (suc j)) (put (λ j. x (suc j)) i b)
put_next x i b = fun_ext (λ j. inside j)
  where
    inside : (j : ℕ) → cond (nat_eq (suc j) (suc i)) b (x (suc j)) ≡ cond (nat_eq j i) b (x (suc j))
    inside j = grind (arith, nat_tests)

put_first : (x : Bits) (b : Bool) → ◌≡◌ {A = Bits} (λ j. put x 0 b (suc j)) (λ j. x (suc j))
put_first x b = fun_ext (λ j. inside j)
  where
    inside : (j : ℕ) → cond (nat_eq (suc j) 0) b (x (suc j)) ≡ x (suc j)
    inside j = grind (arith, nat_tests)

pub front_put : (n : ℕ) (x : Bits) (r : List Bool) (i : ℕ) (b : Bool) → i < n → with_bit (front n x ++ r) i b ≡ front n (put x i b) ++ r
unfolding front
front_put zero x r i b h = absurd (omega arith)
front_put (suc n) x r zero b h = ap (λ z. b ∷ (front n z ++ r)) (sym (put_first x b))
front_put (suc n) x r (suc i) b h = λ k. cond_no x i b k ∷ (front_put n (λ j. x (suc j)) r i b (omega arith) ∙ ap (λ z. front n z ++ r) (sym (put_next x i b))) k
  where
    cond_no : (x : Bits) (i : ℕ) (b : Bool) → x 0 ≡ put x (suc i) b 0
    cond_no x i b = grind (arith, nat_tests)

pub place_self : (us : List Op) → map (place (λ q. q)) us ≡ us
place_self [] = refl
place_self (U a b c q ∷ us) = ap (λ r. U a b c q ∷ r) (place_self us)
place_self (Cx c t ∷ us) = ap (λ r. Cx c t ∷ r) (place_self us)

pub within_below : (n : ℕ) (us : List Op) → WiresBelow n us → Within (λ i. i < n) us
within_below n [] h = tt
within_below n (U a b c q ∷ us) h = (h.0, within_below n us h.1)
within_below n (Cx c t ∷ us) h = (h.0, (h.1.0, within_below n us h.1.1))

-- a list on the first n of some bits
pub listed-applied : (us : List Op) (n : ℕ) (f : List Bool → Ring) (x r : List Bool) → length x ≡ n → WiresBelow n us → listed us f (x ++ r) ≡ applied us (λ z. f (front n z ++ r)) (bit_of x)
listed-applied us n f x r e h =
    (λ i. listed (sym (place_self us) i) f (sym (ap (λ m. front m (bit_of x)) (sym e) ∙ front_of x) i ++ r))
    ∙ act-carry plus turn1 bit_of with_bit bit put (λ i. i < n) (λ q. q) (λ z. front n z ++ r) (λ z i g. front_bit n z r i g) (λ z i b g. front_put n z r i b g) us (within_below n us h) f (bit_of x)

-- a list on bits that are all there
pub listed-whole : (us : List Op) (n : ℕ) (f : List Bool → Ring) (x : List Bool) → length x ≡ n → WiresBelow n us → listed us f x ≡ applied us (λ z. f (front n z)) (bit_of x)
listed-whole us n f x e h = ap (listed us f) (sym (append-nil x)) ∙ listed-applied us n f x [] e h ∙ ap (λ g. applied us g (bit_of x)) (fun_ext (λ z. ap f (append-nil (front n z))))

pub amplitude-applied : (us : List Op) (x y : List Bool) → WiresBelow (length x) us → amplitude us x y ≡ applied us (λ z. cond (same_bits (front (length x) z) y) unit nought) (bit_of x)
amplitude-applied us x y h = amplitude-act us x y ∙ listed-whole us (length x) (λ z. cond (same_bits z y) unit nought) x refl h

-- a law on all functions of all bits is one of amplitudes
pub Turns-amplitude : (k n : ℕ) (A B : List Op) → WiresBelow n A → WiresBelow n B → Turns k A B → SameUpTo k n A B
Turns-amplitude k n A B a b h = record {
  law = λ x y ex ey.
      let f : Bits → Ring = λ z. cond (same_bits (front (length x) z) y) unit nought in
      ap (double (weight A)) (amplitude-applied B x y (subst (λ m. WiresBelow m B) (sym ex) b))
      ∙ h.law f (bit_of x)
      ∙ ap (λ v. turn k (double (weight B) v)) (sym (amplitude-applied A x y (subst (λ m. WiresBelow m A) (sym ex) a)));
}

-- sums of turns modulo 8
pub turn_mod : (k : ℕ) (v : Ring) → k < 16 → turn (k % 8) v ≡ turn k v
turn_mod k v h = go (cases_lt k 8)
  where
    low : k < 8 → k % 8 ≡ k
    low g = omega arith

    high : 8 ≤ k → k % 8 + 8 ≡ k
    high g = omega arith

    go : (k < 8) ⊎ (8 ≤ k) → turn (k % 8) v ≡ turn k v
    go (inl g) = ap (λ m. turn m v) (low g)
    go (inr g) = sym (turn_wraps (k % 8) v) ∙ ap (λ m. turn m v) (high g)

pub SameUpTo_refl : (n : ℕ) (A : List Op) → SameUpTo 0 n A A
SameUpTo_refl n A = record { law = λ x y ex ey. refl }

pub SameUpTo_trans : (j k n : ℕ) (A B C : List Op) → j < 8 → k < 8 → SameUpTo j n A B → SameUpTo k n B C → SameUpTo ((j + k) % 8) n A C
SameUpTo_trans j k n A B C hj hk h g = record {
  law = λ x y ex ey. double_cancel (weight B) _ _ (
      double-swap (weight B) (weight A) (amplitude C x y)
      ∙ ap (double (weight A)) (g.law x y ex ey)
      ∙ double-turn (weight A) k (double (weight C) (amplitude B x y))
      ∙ ap (turn k) (double-swap (weight A) (weight C) (amplitude B x y) ∙ ap (double (weight C)) (h.law x y ex ey) ∙ double-turn (weight C) j (double (weight B) (amplitude A x y)))
      ∙ turn-turn k j (double (weight C) (double (weight B) (amplitude A x y)))
      ∙ (λ i. turn (add_comm k j i) (double-swap (weight C) (weight B) (amplitude A x y) i))
      ∙ sym (turn_mod (j + k) _ (omega arith))
      ∙ sym (double-turn (weight B) ((j + k) % 8) (double (weight C) (amplitude A x y))));
}

pub Turns_sum : (j k : ℕ) (A B C : List Op) → j < 8 → k < 8 → Turns j A B → Turns k B C → Turns ((j + k) % 8) A C
Turns_sum j k A B C hj hk h g = record { law = λ f x. (Turns_trans j k A B C h g).law f x ∙ sym (turn_mod (j + k) _ (omega arith)) }
