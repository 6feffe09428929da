-- `Turns` is a congruence.
--     weight-append           the weight of a joined list
--     applied-double, applied-turn    doublings and turns go through a list
--     Turns_refl, Turns_trans         powers add up
--     Turns_before, Turns_after, Turns_inside     whatever stands before, after, on both sides
use Rattle.std.proofs.Common.{◌≡◌, ℕ, suc, ◌+◌, List, [], ◌∷◌, ◌++◌, refl, sym, ◌∙◌, ap, zero-add, suc-add}
use Rattle.std.proofs.Math.Nat.{add_comm}
use Rattle.std.proofs.Math.Path.{fun_ext}
use Rattle.unitary_model.specs.declared.Op.{Op}
use Rattle.unitary_model.specs.declared.Op.TheVariants.{U, Cx}
use Rattle.unitary_model.specs.Ring.{Ring, turn, double}
use Rattle.unitary_model.specs.Operations.{weight}
use Rattle.unitary_model.specs.Acts.{Bits, bit, put, applied, Turns}
use Rattle.unitary_model.proofs.RingLaws.{double-swap, turn-turn, double-turn, double-double, double_cancel}
use Rattle.unitary_model.proofs.ActLaws.{applied-append, act-double, act-turn}

pub weight-append : (us vs : List Op) → weight (us ++ vs) ≡ weight us + weight vs
weight-append [] vs = sym (zero-add (weight vs))
weight-append (U a b c q ∷ us) vs = ap (λ n. suc n) (weight-append us vs) ∙ sym (suc-add (weight us) (weight vs))
weight-append (Cx c t ∷ us) vs = weight-append us vs

-- doublings and turns go through
pub applied-double : (n : ℕ) (us : List Op) (f : Bits → Ring) (x : Bits) → double n (applied us f x) ≡ applied us (λ y. double n (f y)) x
applied-double n us f x = act-double bit put n us f x

pub applied-turn : (k : ℕ) (us : List Op) (f : Bits → Ring) (x : Bits) → turn k (applied us f x) ≡ applied us (λ y. turn k (f y)) x
applied-turn k us f x = act-turn bit put k us f x

pub Turns_refl : (A : List Op) → Turns 0 A A
Turns_refl A = record { law = λ f x. refl }

-- one after the other
pub Turns_trans : (j k : ℕ) (A B C : List Op) → Turns j A B → Turns k B C → Turns (j + k) A C
Turns_trans j k A B C h g = record {
  law = λ f x. double_cancel (weight B) _ _ (
      double-swap (weight B) (weight A) (applied C f x)
      ∙ ap (double (weight A)) (g.law f x)
      ∙ double-turn (weight A) k (double (weight C) (applied B f x))
      ∙ ap (turn k) (double-swap (weight A) (weight C) (applied B f x) ∙ ap (double (weight C)) (h.law f x) ∙ double-turn (weight C) j (double (weight B) (applied A f x)))
      ∙ turn-turn k j (double (weight C) (double (weight B) (applied A f x)))
      ∙ (λ i. turn (add_comm k j i) (double-swap (weight C) (weight B) (applied A f x) i))
      ∙ sym (double-turn (weight B) (j + k) (double (weight C) (applied A f x))));
}

-- whatever stands before and after
pub Turns_before : (k : ℕ) (P A B : List Op) → Turns k A B → Turns k (P ++ A) (P ++ B)
Turns_before k P A B h = record {
  law = λ f x.
      (λ i. double (weight-append P A i) (applied-append P B f i x))
      ∙ sym (double-double (weight P) (weight A) (applied P (applied B f) x))
      ∙ ap (double (weight P)) (applied-double (weight A) P (applied B f) x ∙ ap (λ g. applied P g x) (fun_ext (h.law f)) ∙ sym (applied-turn k P (λ y. double (weight B) (applied A f y)) x) ∙ ap (turn k) (sym (applied-double (weight B) P (applied A f) x)))
      ∙ double-turn (weight P) k (double (weight B) (applied P (applied A f) x))
      ∙ ap (turn k) (double-double (weight P) (weight B) (applied P (applied A f) x) ∙ (λ i. double (sym (weight-append P B) i) (sym (applied-append P A f) i x)));
}

pub Turns_after : (k : ℕ) (A B S : List Op) → Turns k A B → Turns k (A ++ S) (B ++ S)
Turns_after k A B S h = record {
  law = λ f x.
      both A (applied (B ++ S) f x)
      ∙ ap (double (weight S)) (ap (double (weight A)) (λ i. applied-append B S f i x) ∙ h.law (applied S f) x)
      ∙ double-turn (weight S) k (double (weight B) (applied A (applied S f) x))
      ∙ ap (turn k) (sym (both B (applied A (applied S f) x)) ∙ ap (double (weight (B ++ S))) (λ i. sym (applied-append A S f) i x));
}
  where
    both : (C : List Op) (v : Ring) → double (weight (C ++ S)) v ≡ double (weight S) (double (weight C) v)
    both C v = ap (λ n. double n v) (weight-append C S ∙ add_comm (weight C) (weight S)) ∙ sym (double-double (weight S) (weight C) v)

-- in any place
pub Turns_inside : (k : ℕ) (P A B S : List Op) → Turns k A B → Turns k (P ++ (A ++ S)) (P ++ (B ++ S))
Turns_inside k P A B S h = Turns_before k P (A ++ S) (B ++ S) (Turns_after k A B S h)
