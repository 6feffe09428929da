-- Laws of entries with powers of 2.
--   entry-halved    half the value, with the power one less
--   entry-least     a value without a half has the least power
--   entry-whole     so has the power 0
--   entry-column    a column's value, with the number of branches
use Rattle.std.proofs.Common.{◌≡◌, ℕ, zero, suc, ◌+◌, ◌-◌, ◌<◌, Bool, true, false, List, [], ◌∷◌, refl, sym, ap, ◌∙◌, subst, arith}
use Rattle.std.specs.Prelude.{◌==◌, ◌||◌, if◌then◌else◌}
use Rattle.unitary_model.specs.declared.Op.{Op}
use Rattle.unitary_model.specs.declared.Op.TheVariants.{U, Cx}
use Rattle.unitary_model.specs.Ring.{Ring, double, plus}
use Rattle.unitary_model.specs.Operations.{weight}
use Rattle.unitary_model.specs.Amplitude.{amplitude}
use Rattle.unitary_model.proofs.RingLaws.{double-double, double-swap, double_cancel}
use Rattle.amplitude_exact.specs.Entries.{IsEntry, IsExact, branches}
use Rattle.amplitude_exact.specs.Columns.{others}

pub entry-halved : (us : List Op) (x y : List Bool) (v h : Ring) (e d : ℕ) → plus h h ≡ v → e ≡ suc d → IsEntry us x y v e → IsEntry us x y h d
entry-halved us x y v h e d half next k =
    double_cancel 1 (double d (amplitude us x y)) (double (weight us) h)
    (double-double 1 d (amplitude us x y)
    ∙ ap (λ m. double m (amplitude us x y)) (one ∙ sym next)
    ∙ k
    ∙ ap (double (weight us)) (sym half)
    ∙ double-swap (weight us) 1 h)
  where
    one : 1 + d ≡ suc d
    one = omega arith

pub entry-least : (us : List Op) (x y : List Bool) (v : Ring) (e : ℕ) → ((u : Ring) → plus u u ≡ v → ⊥) → IsEntry us x y v e → IsExact us x y v e
entry-least us x y v e odd k = record {
  entry = k;
  least = λ f u l g. by f u l g (e - f) (omega arith);
}
  where
    by : (f : ℕ) (u : Ring) → f < e → IsEntry us x y u f → (d : ℕ) → d + f ≡ e → ⊥
    by f u l g zero s = omega (arith, l, s)
    by f u l g (suc d) s =
        odd (double d u) (sym (double_cancel (weight us) v (double (suc d) u)
        (sym k ∙ ap (λ m. double m (amplitude us x y)) (sym s) ∙ sym (double-double (suc d) f (amplitude us x y))
        ∙ ap (double (suc d)) g ∙ double-swap (suc d) (weight us) u)))

pub entry-whole : (us : List Op) (x y : List Bool) (v : Ring) (e : ℕ) → e ≡ 0 → IsEntry us x y v e → IsExact us x y v e
entry-whole us x y v e z k = record { entry = k; least = λ f u l g. omega (arith, l, z) }

pub exact-same : (us : List Op) (x y : List Bool) (v u : Ring) (e f : ℕ) → u ≡ v → f ≡ e → IsExact us x y v e → IsExact us x y u f
exact-same us x y v u e f p q h = subst (λ (w : Ring). IsExact us x y w f) (sym p) (subst (λ g. IsExact us x y v g) (sym q) h)

-- ---- a column's value
weight-parts : (us : List Op) → weight us ≡ branches us + others us
weight-parts [] = omega arith
weight-parts (Cx c t ∷ us) = weight-parts us
weight-parts (U a b c q ∷ us) = go (a == 0 || a == 4) refl (weight-parts us)
  where
    go : (t : Bool) → (a == 0 || a == 4) ≡ t → weight us ≡ branches us + others us
        → suc (weight us) ≡ (if a == 0 || a == 4 then branches us else suc (branches us)) + (if a == 0 || a == 4 then suc (others us) else others us)
    go true t h = let s : suc (weight us) ≡ branches us + suc (others us) = omega (arith, h) in
        s ∙ (λ i. (if sym t i then branches us else suc (branches us)) + (if sym t i then suc (others us) else others us))
    go false t h = let s : suc (weight us) ≡ suc (branches us) + others us = omega (arith, h) in
        s ∙ (λ i. (if sym t i then branches us else suc (branches us)) + (if sym t i then suc (others us) else others us))

pub entry-column : (us : List Op) (x y : List Bool) (v : Ring) → amplitude us x y ≡ double (others us) v → IsEntry us x y v (branches us)
entry-column us x y v h =
    ap (double (branches us)) h ∙ double-double (branches us) (others us) v ∙ ap (λ m. double m v) (sym (weight-parts us))
