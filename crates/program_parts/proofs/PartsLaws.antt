-- Laws of parts.
--   AreRealised-whole    parts that are realised one after the other
--   AreRealised-one      one part
--   cx-parts             the CNOTs of all parts
use Rattle.std.proofs.Common.{◌≡◌, ℕ, ◌+◌, ◌*◌, ◌%◌, ◌<◌, ◌≤◌, List, [], ◌∷◌, ◌++◌, refl, sym, subst, arith, append-nil}
use Rattle.std.specs.Prelude.{sum_by}
use Rattle.std.specs.List.{AllByRecursion}
use Rattle.std.proofs.lemmas.List.Sums.{sum_by-cons}
use Rattle.unitary_model.specs.declared.Op.{Op}
use Rattle.unitary_model.specs.declared.Op.TheVariants.{U, Cx}
use Rattle.unitary_model.specs.Operations.{cx_count}
use Rattle.unitary_model.specs.Realises.{Realises}
use Rattle.unitary_model.proofs.RealisesLaws.{Realises_joined}
use Rattle.program_parts.specs.Parts.{AreRealised, Part, ends, powers, sources, targets}

remainder : (k : ℕ) → k < 8 → (k + 0) % 8 ≡ k
remainder k l = omega (arith, l)

wrapped : (j k : ℕ) → (j + k % 8) % 8 ≡ (j + k) % 8
wrapped j k = omega arith

none : {A : Type 0} (x : A) (xs : List A) → x ∷ xs ≡ [] → ⊥
none x xs e = cc

pub AreRealised-whole : (n size : ℕ) (parts : List Part) (first : List ℕ) → (parts ≡ [] → ⊥) → AreRealised n size first parts
    → Realises (sources parts) n (targets parts) size first (ends first parts) (powers parts % 8)
AreRealised-whole n size [] first some h = absurd (some refl)
AreRealised-whole n size (p ∷ []) first some h =
    subst (λ (us : List Op). Realises us n (p.target ++ []) size first p.last ((p.power + 0) % 8)) (sym (append-nil p.source))
    (subst (λ (rs : List Op). Realises p.source n rs size first p.last ((p.power + 0) % 8)) (sym (append-nil p.target))
    (subst (λ k. Realises p.source n p.target size first p.last k) (sym (remainder p.power h.0.below)) h.0))
AreRealised-whole n size (p ∷ q ∷ parts) first some h =
    let rest = AreRealised-whole n size (q ∷ parts) p.last (none q parts) h.1 in
    subst (λ k. Realises (sources (p ∷ q ∷ parts)) n (targets (p ∷ q ∷ parts)) size first (ends first (p ∷ q ∷ parts)) k)
    (wrapped p.power (powers (q ∷ parts)))
    (Realises_joined p.source (sources (q ∷ parts)) p.target (targets (q ∷ parts)) n size first p.last (ends p.last (q ∷ parts)) p.power (powers (q ∷ parts) % 8) h.0 rest)

pub AreRealised-one : (n size : ℕ) (p : Part) (first : List ℕ) → Realises p.source n p.target size first p.last p.power → AreRealised n size first (p ∷ [])
AreRealised-one n size p first h = (h, tt)

cx-append : (us vs : List Op) → cx_count (us ++ vs) ≡ cx_count us + cx_count vs
cx-append [] vs = omega arith
cx-append (U a b c q ∷ us) vs = cx-append us vs
cx-append (Cx c t ∷ us) vs = omega (arith, cx-append us vs)

pub cx-parts : (parts : List Part) → AllByRecursion (λ (p : Part). cx_count p.target ≤ cx_count p.source + 3 * p.swaps) parts
    → cx_count (targets parts) ≤ cx_count (sources parts) + 3 * sum_by (λ (p : Part). p.swaps) parts
cx-parts [] h = omega arith
cx-parts (p ∷ parts) h =
    let rest = cx-parts parts h.1 in
    let here = h.0 in
    omega (arith, here, rest, cx-append p.target (targets parts), cx-append p.source (sources parts), sum_by-cons (λ (p : Part). p.swaps) p parts)
