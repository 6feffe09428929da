-- Laws of the tests' own pass, which takes the two NOT away with which a list begins.
--     front_pair              the list with its two NOT
--     pair_law                the pass's law;  pair_shrinks, pair_keeps: what it keeps
use Rattle.std.proofs.Common.{◌≡◌, ℕ, suc, ◌+◌, ◌<◌, List, [], ◌∷◌, length, All, Contains, slice_get, refl, sym, subst, ◌∙◌, ap, arith, inl, Some}
use Rattle.std.specs.Prelude.{remove}
use Rattle.std.proofs.lemmas.Option.{same_Some, none-some}
use Rattle.circuit_list.specs.declared.Gate.{Gate}
use Rattle.circuit_list.specs.declared.Gate.TheVariants.{X, Cx}
use Rattle.circuit_list.specs.Gates.{IsFine, op_of, ops}
use Rattle.unitary_model.specs.Ring.{nought, unit, plus, turn1}
use Rattle.unitary_model.proofs.HadamardWindows.{flip}
use Rattle.unitary_model.proofs.PathLaws.{Covers_refl}
use Rattle.unitary_model.proofs.Steps.{Step, Step_inside}
use Rattle.unitary_model.proofs.Windows.{Agree, in_place}
use Rattle.rewrite_pass.specs.Law.{IsRewriting, IsSmallerOrSame, KeepsCnots}
use Rattle.rewrite_pass.proofs.RewritingLaws.{Step-IsRewriting}

x_x_window : Agree 4 (flip 0 ∷ flip 0 ∷ []) []
unfolding Agree plus turn1 unit nought
x_x_window = refl

x_x : (q : ℕ) → Step 4 (flip q ∷ flip q ∷ []) []
x_x q = record {
  turns = in_place q (q + 1) (q + 2) (record { first_second = omega arith; first_third = omega arith; second_third = omega arith }) 4 (flip 0 ∷ flip 0 ∷ []) [] x_x_window;
  covers = Covers_refl [];
  t_gates = omega arith;
  cx_gates = omega arith;
}

pub front_pair : (q r : ℕ) (gs mid new : List Gate) → slice_get gs 0 ≡ Some (X q) → slice_get gs 1 ≡ Some (X r) → q ≡ r → mid ≡ remove gs 0 → new ≡ remove mid 0 → gs ≡ X q ∷ X q ∷ new
front_pair q r [] mid new a b e f g = absurd (none-some (X q) a)
front_pair q r (x ∷ []) mid new a b e f g = absurd (none-some (X r) b)
front_pair q r (x ∷ y ∷ gs) mid new a b e f g =
    let rest : new ≡ gs = g ∙ ap (λ xs. remove xs 0) f in
    λ i. same_Some x (X q) a i ∷ (same_Some y (X r) b ∙ ap X (sym e)) i ∷ sym rest i

pub pair_law : (n q : ℕ) (gs new : List Gate) → gs ≡ X q ∷ X q ∷ new → All (IsFine n) gs → IsRewriting n gs new 4
pair_law n q gs new e all = Step-IsRewriting n gs new 4 all rest (omega arith)
    (subst (λ xs. Step 4 (ops xs) (ops new)) (sym e) (Step_inside 4 [] (op_of (X q) ∷ op_of (X q) ∷ []) [] (ops new) (x_x q)))
  where
    rest : All (IsFine n) new
    rest k d lt = (subst (All (IsFine n)) e all) (suc (suc k)) d (omega arith)

pub pair_shrinks : (q : ℕ) (old new : List Gate) → old ≡ X q ∷ X q ∷ new → IsSmallerOrSame old new
pair_shrinks q old new e = let l : length old ≡ length (X q ∷ X q ∷ new) = ap length e in inl (omega arith)

pub pair_keeps : (q : ℕ) (old new : List Gate) → old ≡ X q ∷ X q ∷ new → KeepsCnots old new
pair_keeps q old new e c t h = subst (λ xs. Contains xs (Cx c t)) (sym e) (suc (suc h.0), omega (arith, h.1), h.2)
