-- A part of the gates in the place of which others come.
--     SameUpTo_inside         lists with one unitary up to a power of w, whatever stands before and behind
--     part_kept               gates with the path sum of a part, in its place
--     phases_kept             gates whose phases are the same function, in the place of all
--     change_kept             what a line that rewrites keeps
use Rattle.std.proofs.Common.{◌≡◌, ℕ, zero, suc, ◌+◌, ◌-◌, ◌%◌, ◌<◌, ◌≤◌, Bool, List, [], ◌∷◌, ◌++◌, length, take, drop, ap, ◌∙◌, sym, subst, arith}
use Rattle.std.specs.List.{AllByRecursion}
use Rattle.std.proofs.Math.Seq.{take-length}
use Rattle.std.proofs.Math.ListN.{drop_of_length-le}
use Rattle.std.proofs.lemmas.List.{drop-drop, take-append-drop}
use Rattle.std.proofs.lemmas.List.Elements.{recursion_from_All}
use Rattle.circuit_list.specs.declared.Gate.{Gate}
use Rattle.circuit_list.specs.Gates.{IsFine, ops}
use Rattle.path_parity.specs.NamedSums.{constant_of}
use Rattle.path_parity.proofs.SamePathSumLaws.{same_path_function, same_path_sum}
use Rattle.unitary_model.specs.declared.Op.{Op}
use Rattle.unitary_model.specs.Amplitude.{amplitude}
use Rattle.unitary_model.specs.Operations.{weight}
use Rattle.unitary_model.specs.Placement.{identity}
use Rattle.unitary_model.specs.Realises.{Realises}
use Rattle.unitary_model.specs.Ring.{double, turn}
use Rattle.unitary_model.specs.SameUpTo.{SameUpTo}
use Rattle.unitary_model.proofs.AmplitudeLaws.{SameUpTo_refl}
use Rattle.unitary_model.proofs.PlacementLaws.{moved-identity}
use Rattle.unitary_model.proofs.RealisesLaws.{Realises_joined, Realises_same}
use Rattle.rewrite_pass.specs.Traces.{constants_turn}
use Rattle.rewrite_pass.proofs.RewritingLaws.{ops_joined}
use Rattle.rewrite_pass.proofs.TraceLaws.{Kept, step_kept}
use Rattle.trace_model.specs.Lines.{Line, Rewrite, Part, Phases}
use Rattle.trace_model.specs.Proves.{Changes, IsPartChange, IsPhasesChange, slice_of}

-- ---- whatever stands before and behind
in_places : (k n : ℕ) (A B : List Op) → Realises A n B n (identity n) (identity n) k → SameUpTo k n A B
in_places k n A B h = record {
  law = λ x y ex ey.
      (λ i. double (weight A) (amplitude B (sym (moved-identity n x ex) i) (sym (moved-identity n y ey) i)))
      ∙ h.agree x y ex ey (none x ex ∙ sym (none y ey))
      ∙ (λ i. turn k (double (weight B) (amplitude A (whole x ex i) (whole y ey i))));
}
  where
    none : (x : List Bool) → length x ≡ n → drop n x ≡ []
    none x e = drop_of_length-le x (omega (arith, e))

    whole : (x : List Bool) → length x ≡ n → take n x ≡ x
    whole x e = ap (λ m. take m x) (sym e) ∙ take-length x

pub SameUpTo_inside : (k n : ℕ) (P A B S : List Op) → k < 8 → SameUpTo k n A B → SameUpTo k n (P ++ (A ++ S)) (P ++ (B ++ S))
SameUpTo_inside k n P A B S lt h =
    let i : List ℕ = identity n in
    let p = Realises_same P P n 0 (omega arith) (SameUpTo_refl n P) in
    let s = Realises_same S S n 0 (omega arith) (SameUpTo_refl n S) in
    let m = Realises_same A B n k lt h in
    in_places k n (P ++ (A ++ S)) (P ++ (B ++ S))
    (subst (λ t. Realises (P ++ (A ++ S)) n (P ++ (B ++ S)) n i i t) (sums k lt)
    (Realises_joined P (A ++ S) P (B ++ S) n n i i i 0 ((k + 0) % 8) p (Realises_joined A S B S n n i i i k 0 m s)))
  where
    sums : (k : ℕ) → k < 8 → (0 + (k + 0) % 8) % 8 ≡ k
    sums k lt = omega arith

-- ---- gates
fine_take : (n i : ℕ) (gs : List Gate) → AllByRecursion (IsFine n) gs → AllByRecursion (IsFine n) (take i gs)
fine_take n zero gs f = tt
fine_take n (suc i) [] f = tt
fine_take n (suc i) (g ∷ gs) f = (f.0, fine_take n i gs f.1)

fine_drop : (n i : ℕ) (gs : List Gate) → AllByRecursion (IsFine n) gs → AllByRecursion (IsFine n) (drop i gs)
fine_drop n zero gs f = f
fine_drop n (suc i) [] f = tt
fine_drop n (suc i) (g ∷ gs) f = fine_drop n i gs f.1

fine_joined : (n : ℕ) (gs hs : List Gate) → AllByRecursion (IsFine n) gs → AllByRecursion (IsFine n) hs → AllByRecursion (IsFine n) (gs ++ hs)
fine_joined n [] hs f h = h
fine_joined n (g ∷ gs) hs f h = (f.0, fine_joined n gs hs f.1 h)

three_joined : (a b c : List Gate) → ops (a ++ (b ++ c)) ≡ ops a ++ (ops b ++ ops c)
three_joined a b c = ops_joined a (b ++ c) ∙ ap (λ us. ops a ++ us) (ops_joined b c)

split : (gs : List Gate) (i j : ℕ) → i ≤ j → take i gs ++ (slice_of gs i j ++ drop j gs) ≡ gs
split gs i j le =
    ap (λ t. take i gs ++ (slice_of gs i j ++ t)) (ap (λ m. drop m gs) (sym (around i j le)) ∙ sym (drop-drop (j - i) i gs))
    ∙ ap (λ t. take i gs ++ t) (take-append-drop (j - i) (drop i gs)) ∙ take-append-drop i gs
  where
    around : (i j : ℕ) → i ≤ j → i + (j - i) ≡ j
    around i j le = omega arith

turned : (a b : ℕ) → (a + (b + (8 - a % 8)) % 8) % 8 ≡ b % 8
turned a b = omega arith

pub part_kept : (n : ℕ) (old : List Gate) (i j : ℕ) (gates new : List Gate) (t : ℕ) → AllByRecursion (IsFine n) old → IsPartChange n old i j gates new t → Kept n old new t
part_kept n old i j gates new t fine h =
    let a : List Gate = take i old in
    let p : List Gate = slice_of old i j in
    let b : List Gate = drop j old in
    let u : ℕ = constants_turn n p gates in
    let fine' : AllByRecursion (IsFine n) gates = recursion_from_All (IsFine n) gates h.fine in
    let part : SameUpTo u n (ops p) (ops gates) = same_path_sum n p gates u (fine_take n (j - i) (drop i old) (fine_drop n i old fine)) fine' h.same (turned (constant_of n p) (constant_of n gates)) in
    let inside : SameUpTo u n (ops a ++ (ops p ++ ops b)) (ops a ++ (ops gates ++ ops b)) = SameUpTo_inside u n (ops a) (ops p) (ops gates) (ops b) (omega arith) part in
    let whole : SameUpTo u n (ops old) (ops (a ++ (gates ++ b))) =
    subst (λ us. SameUpTo u n us (ops (a ++ (gates ++ b)))) (sym (three_joined a p b) ∙ ap ops (split old i j h.ordered))
    (subst (λ us. SameUpTo u n (ops a ++ (ops p ++ ops b)) us) (sym (three_joined a gates b)) inside) in
    subst (λ m. Kept n old new m) (sym h.turn) (subst (λ gs. Kept n old gs u) (sym h.becomes) (record {
      below = omega arith;
      same = whole;
      fine = fine_joined n a (gates ++ b) (fine_take n i old fine) (fine_joined n gates b fine' (fine_drop n j old fine));
    }))

-- ---- all gates, where the phases are the same function
phases_kept : (n : ℕ) (old gates new : List Gate) (t : ℕ) → AllByRecursion (IsFine n) old → IsPhasesChange n old gates new t → Kept n old new t
phases_kept n old gates new t fine h =
    let u : ℕ = constants_turn n old gates in
    let fine' : AllByRecursion (IsFine n) gates = recursion_from_All (IsFine n) gates h.fine in
    subst (λ m. Kept n old new m) (sym h.turn) (subst (λ gs. Kept n old gs u) (sym h.becomes)
    (record { below = omega arith; same = same_path_function n old gates u fine fine' h.same (turned (constant_of n old) (constant_of n gates)); fine = fine' }))

pub change_kept : (n : ℕ) (old : List Gate) (l : Line) (new : List Gate) (t : ℕ) → AllByRecursion (IsFine n) old → Changes n old l new t → Kept n old new t
change_kept n old (Rewrite s) new t f h = step_kept n old s new t f h
change_kept n old (Part i j gates) new t f h = part_kept n old i j gates new t f h
change_kept n old (Phases gates) new t f h = phases_kept n old gates new t f h
change_kept n old _ new t f h = absurd h
