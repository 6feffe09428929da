-- Laws of `Realised`.
--     applied_carried         a list put on the places of its wires does what it did
--     Realised_then           one after the other
--     Realised_emit           a list put on the places of its wires realises it
--     Realised_turns          a list of the same unitary in its place
--     applied_cx              what a CNOT does
use Rattle.std.proofs.Common.{◌≡◌, ℕ, ◌+◌, Bool, true, false, cond, not, List, ◌∷◌, ◌++◌, map, refl, sym, ◌∙◌, ap, arith}
use Rattle.std.proofs.Math.Path.{fun_ext}
use Rattle.std.proofs.Math.Nat.{add_comm}
use Rattle.std.specs.Prelude.{nat_eq}
use Rattle.std.proofs.lemmas.Bool.Decides.{nat_tests}
use Rattle.unitary_model.specs.declared.Op.{Op}
use Rattle.unitary_model.specs.declared.Op.TheVariants.{Cx}
use Rattle.unitary_model.specs.Ring.{Ring, plus, turn1, turn, double}
use Rattle.unitary_model.specs.Operations.{weight}
use Rattle.unitary_model.specs.Acts.{Bits, bit, put, applied, Turns, place}
pub use Rattle.unitary_model.specs.Realised.{Placing, carried, Realised}
use Rattle.unitary_model.proofs.RingLaws.{double-swap, turn-turn, double-turn, double-double, double_cancel}
use Rattle.unitary_model.proofs.ActLaws.{applied-append, act-carry}
use Rattle.unitary_model.proofs.TurnsLaws.{weight-append, applied-double, applied-turn}
use Rattle.unitary_model.proofs.Windows.{weight-place, all_within}
use Rattle.unitary_model.proofs.Slide.{put_own}

carried_bit : (p : Placing) (x : Bits) (i : ℕ) → bit (carried p x) (p.to i) ≡ bit x i
carried_bit p x i = ap x (p.from_to i)

same_test : (a b c d : ℕ) → (a ≡ b → c ≡ d) → (c ≡ d → a ≡ b) → nat_eq a b ≡ nat_eq c d
same_test a b c d f g = grind (arith, nat_tests)

carried_put : (p : Placing) (x : Bits) (i : ℕ) (b : Bool) → put (carried p x) (p.to i) b ≡ carried p (put x i b)
carried_put p x i b = fun_ext (λ j. ap (λ t. cond t b (x (p.from j)))
    (same_test j (p.to i) (p.from j) i (λ e. ap p.from e ∙ p.from_to i) (λ e. sym (p.to_from j) ∙ ap p.to e)))

-- a list put on the places of its wires does what it did
pub applied_carried : (p : Placing) (us : List Op) (f : Bits → Ring) (x : Bits) → applied (map (place p.to) us) f (carried p x) ≡ applied us (λ z. f (carried p z)) x
applied_carried p us f x = act-carry plus turn1 bit put bit put (λ _. Unit {0}) p.to (carried p) (λ z i _. carried_bit p z i) (λ z i b _. carried_put p z i b) us (all_within us) f x

-- one after the other, placements and powers with it
pub Realised_then : (S T R Q : List Op) (p q r : Placing) (j k : ℕ) → Realised S R p q j → Realised T Q q r k → Realised (S ++ T) (R ++ Q) p r (j + k)
Realised_then S T R Q p q r j k a b = record {
  law = λ f x.
      (λ i. double (weight-append S T i) (applied-append R Q f i (carried p x)))
      ∙ over (weight S) (weight T) (applied R (applied Q f) (carried p x))
      ∙ ap (double (weight T)) (a.law (applied Q f) x)
      ∙ double-turn (weight T) j (double (weight R) (applied S (λ z. applied Q f (carried q z)) x))
      ∙ ap (turn j) (double-swap (weight T) (weight R) (applied S (λ z. applied Q f (carried q z)) x)
      ∙ ap (double (weight R)) (applied-double (weight T) S (λ z. applied Q f (carried q z)) x
      ∙ ap (λ g. applied S g x) (fun_ext (λ z. b.law f z))
      ∙ sym (applied-turn k S (λ z. double (weight Q) (applied T (λ y. f (carried r y)) z)) x)
      ∙ ap (turn k) (sym (applied-double (weight Q) S (applied T (λ y. f (carried r y))) x)))
      ∙ double-turn (weight R) k (double (weight Q) (applied S (applied T (λ y. f (carried r y))) x)))
      ∙ turn-turn j k (double (weight R) (double (weight Q) (applied S (applied T (λ y. f (carried r y))) x)))
      ∙ ap (turn (j + k)) (double-double (weight R) (weight Q) (applied S (applied T (λ y. f (carried r y))) x)
      ∙ (λ i. double (sym (weight-append R Q) i) (sym (applied-append S T (λ y. f (carried r y))) i x)));
}
  where
    over : (m n : ℕ) (v : Ring) → double (m + n) v ≡ double n (double m v)
    over m n v = sym (double-double m n v) ∙ double-swap m n v

-- an emitted gate
pub Realised_emit : (p : Placing) (us : List Op) → Realised us (map (place p.to) us) p p 0
Realised_emit p us = record { law = λ f x. ap (double (weight us)) (applied_carried p us f x) ∙ (λ i. double (sym (weight-place p.to us) i) (applied us (λ z. f (carried p z)) x)) }

-- a list of another text in its place
pub Realised_turns : (S R Q : List Op) (p q : Placing) (j k : ℕ) → Realised S R p q j → Turns k R Q → Realised S Q p q (j + k)
Realised_turns S R Q p q j k a h = record {
  law = λ f x. double_cancel (weight R) _ _ (
      double-swap (weight R) (weight S) (applied Q f (carried p x))
      ∙ ap (double (weight S)) (h.law f (carried p x))
      ∙ double-turn (weight S) k (double (weight Q) (applied R f (carried p x)))
      ∙ ap (turn k) (double-swap (weight S) (weight Q) (applied R f (carried p x)) ∙ ap (double (weight Q)) (a.law f x) ∙ double-turn (weight Q) j (double (weight R) (applied S (λ z. f (carried q z)) x)))
      ∙ turn-turn k j (double (weight Q) (double (weight R) (applied S (λ z. f (carried q z)) x)))
      ∙ (λ i. turn (add_comm k j i) (double-swap (weight Q) (weight R) (applied S (λ z. f (carried q z)) x) i))
      ∙ sym (double-turn (weight R) (j + k) (double (weight Q) (applied S (λ z. f (carried q z)) x))));
}

abbrev pub flipped_by : Bool → Bool → Bool
flipped_by a true = not a
flipped_by a false = a

-- Cx
pub applied_cx : (c t : ℕ) (us : List Op) (f : Bits → Ring) (x : Bits) → applied (Cx c t ∷ us) f x ≡ applied us f (put x t (flipped_by (x t) (x c)))
applied_cx c t us f x = go (x c)
  where
    go : (b : Bool) → cond b (applied us f (put x t (not (x t)))) (applied us f x) ≡ applied us f (put x t (flipped_by (x t) b))
    go true = refl
    go false = ap (applied us f) (sym (put_own x t (x t) refl))
