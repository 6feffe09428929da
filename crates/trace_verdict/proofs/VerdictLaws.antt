-- Verdicts on two texts.
--     IsVerdict-outcome   what is told of the claim of two accepted programs, as a verdict
--     IsRealised-outcome  and that it is so;  IsRealised-told: as it is told
--     ok-of               what is known of an answer that is there
--     MeansOnce, TracesSound, TextLaws        laws of texts and traces, as they are handed in
--     verdicts_once       two verdicts are one
--     yes-proved, yes-own      a trace that proves the claim gets a yes
use Rattle.std.proofs.Common.{◌≡◌, ◌⊎◌, inl, inr, ℕ, List, All, Result, Ok, MatchResult, sym, subst, ◌∙◌, ap, false}
use Rattle.gate_expand.specs.Expansion.{IsFineOp}
use Rattle.gate_inline.specs.Programs.{IsWritten, Program, kept}
use Rattle.program_reader.specs.Refusals.{at_of, code_of}
use Rattle.program_reader.specs.Texts.{IsAcceptedText, IsTextRefusal}
use Rattle.program_reader.specs.declared.refusal.ProgramRefusal.{ProgramRefusal as First}
use Rattle.unitary_model.specs.Realises.{Realises}
use Rattle.trace_check.specs.Outcomes.{IsOutcome}
use Rattle.trace_model.specs.Proves.{Claim, Proves, StopsAt}
use Rattle.trace_text.specs.Texts.{trace_of}
use Rattle.trace_verdict.specs.Told.{verdict_of, IsReadAs}
use Rattle.trace_verdict.specs.Verdicts.{BothSay, IsReadable, IsRealised, IsRefused, IsSameVerdict, IsVerdict, IsYes}
use Rattle.circuit_target.specs.Standing.{claim_of}
use Rattle.trace_check.specs.declared.checker.Outcome.{Outcome}
use Rattle.trace_check.specs.declared.checker.Outcome.TheVariants.{Proved, Stopped}
use Rattle.trace_verdict.specs.declared.verdict.TextRefusal.{TextRefusal}
use Rattle.trace_verdict.specs.declared.verdict.Verdict.{Verdict}
use Rattle.trace_verdict.specs.declared.verdict.Verdict.TheVariants.{Yes, No, Source, Target}

abbrev pub MeansOnce : Type 0
MeansOnce = (text : List ℕ) (p q : Program) → IsWritten text p → IsWritten text q → p ≡ q

-- ---- from an outcome
pub IsVerdict-outcome : (s t trace : List ℕ) (p q : Program) (o : Outcome) → IsAcceptedText s p → IsAcceptedText t q → IsOutcome (claim_of p q) trace o
    → IsVerdict s t trace (verdict_of o)
IsVerdict-outcome s t trace p q (Proved initial last phase) a b h = (p, q, a, b, h)
IsVerdict-outcome s t trace p q (Stopped line) a b h = (p, q, a, b, h)

program_once : MeansOnce → (text : List ℕ) (p q : Program) → IsAcceptedText text p → IsAcceptedText text q → p ≡ q
program_once once text p q a b = once text p q (a.tree, a.source, a.means) (b.tree, b.source, b.means)

abbrev pub TracesSound : Type 0
TracesSound = (e : Claim) (trace p q : List ℕ) (j : ℕ) → All (IsFineOp e.wires) e.source → All (IsFineOp e.qubits) e.target
    → Proves e trace p q j → Realises e.source e.wires e.target e.qubits p q j

pub IsRealised-outcome : MeansOnce → TracesSound → (s t trace : List ℕ) (p q : Program) (o : Outcome) → IsAcceptedText s p → IsAcceptedText t q
    → All (IsFineOp p.wires) p.ops → All (IsFineOp q.wires) q.ops → IsOutcome (claim_of p q) trace o → IsRealised s t (verdict_of o)
IsRealised-outcome once sound s t trace p q (Proved initial last phase) a b f g h = λ x y c d.
    let P : Program → Program → Type 0 = λ u v. Realises u.ops u.wires v.ops v.wires initial.items last.items phase in
    subst (λ u. P u y) (program_once once s p x a c)
    (subst (λ v. P p v) (program_once once t q y b d) (sound (claim_of p q) trace initial.items last.items phase f g h))
IsRealised-outcome once sound s t trace p q (Stopped line) a b f g h = tt

-- ---- of programs that are one part
pub IsVerdict-read : (s t trace : List ℕ) (x y : Program) (o : Outcome) → IsReadAs s x → IsReadAs t y → IsOutcome (claim_of x y) trace o
    → IsVerdict s t trace (verdict_of o)
IsVerdict-read s t trace x y o (p, a, e) (q, b, f) h =
    let here : IsOutcome (claim_of p q) trace o = subst (λ u. IsOutcome (claim_of u (kept false q)) trace o) e (subst (λ v. IsOutcome (claim_of x v) trace o) f h) in
    IsVerdict-outcome s t trace p q o a b here

pub IsRealised-read : MeansOnce → TracesSound → (s t trace : List ℕ) (x y : Program) (o : Outcome) → IsReadAs s x → IsReadAs t y
    → All (IsFineOp x.wires) x.ops → All (IsFineOp y.wires) y.ops → IsOutcome (claim_of x y) trace o → IsRealised s t (verdict_of o)
IsRealised-read once sound s t trace x y o (p, a, e) (q, b, f) fine good h =
    let here : IsOutcome (claim_of p q) trace o = subst (λ u. IsOutcome (claim_of u (kept false q)) trace o) e (subst (λ v. IsOutcome (claim_of x v) trace o) f h) in
    IsRealised-outcome once sound s t trace p q o a b (subst (λ (u : Program). All (IsFineOp u.wires) u.ops) e fine)
    (subst (λ (v : Program). All (IsFineOp v.wires) v.ops) f good) here

pub IsVerdict-told : (s t trace : List ℕ) (o : Outcome) (v : Verdict) → v ≡ verdict_of o → IsVerdict s t trace (verdict_of o) → IsVerdict s t trace v
IsVerdict-told s t trace o v told h = subst (λ w. IsVerdict s t trace w) (sym told) h

pub IsRealised-told : (s t : List ℕ) (o : Outcome) (v : Verdict) → v ≡ verdict_of o → IsRealised s t (verdict_of o) → IsRealised s t v
IsRealised-told s t o v told h = subst (λ w. IsRealised s t w) (sym told) h

pub ok-of : {A E : Type 0} (P : A → Type 0) (Q : E → Type 0) (r : Result A E) (x : A) → r ≡ Ok x → MatchResult r P Q → P x
ok-of P Q r x is h = subst (λ v. MatchResult v P Q) is h

-- ---- two verdicts
pub record TextLaws : Type 0 where
  pub means_once : MeansOnce
  pub no_refusal : (text : List ℕ) (p : Program) (r : First) → IsAcceptedText text p → IsTextRefusal text r → ⊥
  pub refused_once : (text : List ℕ) (r s : First) → IsTextRefusal text r → IsTextRefusal text s → r ≡ s
  pub not_both : (e : Claim) (trace : List ℕ) (n : ℕ) (p q : List ℕ) (j : ℕ) → StopsAt e trace n → Proves e trace p q j → ⊥
  pub one_line : (e : Claim) (trace : List ℕ) (m n : ℕ) → StopsAt e trace m → StopsAt e trace n → m ≡ n
  pub one_proof : (e : Claim) (trace p q r s : List ℕ) (j k : ℕ) → Proves e trace p q j → Proves e trace r s k → (p ≡ r) × ((q ≡ s) × (j ≡ k))

-- what is said of the claim of the programs of two texts is said of one claim
together : MeansOnce → (s t : List ℕ) (P Q : Claim → Type 0) → BothSay s t P → BothSay s t Q → (e : Claim) × P e × Q e
together once s t P Q (p, q, a, b, h) (x, y, c, d, k) =
    let same : claim_of x y ≡ claim_of p q = λ i. claim_of (program_once once s x p c a i) (program_once once t y q d b i) in
    (claim_of p q, h, subst Q same k)

not_refused : TextLaws → (text : List ℕ) (r : TextRefusal) → IsReadable text → IsRefused text r → ⊥
not_refused laws text r (p, a) (f, h, code, at) = laws.no_refusal text p f a h

one_refusal : TextLaws → (text : List ℕ) (r s : TextRefusal) → IsRefused text r → IsRefused text s → r ≡ s
one_refusal laws text r s (f, h, c, a) (g, k, d, b) =
    let same : f ≡ g = laws.refused_once text f g h k in
    same_numbers r s (c ∙ ap code_of same ∙ sym d) (a ∙ ap at_of same ∙ sym b)
  where
    same_numbers : (r s : TextRefusal) → r.code ≡ s.code → r.at ≡ s.at → r ≡ s
    same_numbers r s c a = λ i. record { code = c i; at = a i }

pub verdicts_once : TextLaws → (s t trace : List ℕ) (v w : Verdict) → IsVerdict s t trace v → IsVerdict s t trace w → IsSameVerdict v w
verdicts_once laws s t trace (Yes i l j) (Yes m n k) a b =
    let both = together laws.means_once s t (λ e. Proves e trace i.items l.items j) (λ e. Proves e trace m.items n.items k) a b in
    let one = laws.one_proof both.0 trace i.items l.items m.items n.items j k both.1 both.2 in
    (one.0, one.1.0, one.1.1)
verdicts_once laws s t trace (Yes i l j) (No n) a b =
    let both = together laws.means_once s t (λ e. Proves e trace i.items l.items j) (λ e. StopsAt e trace n) a b in
    laws.not_both both.0 trace n i.items l.items j both.2 both.1
verdicts_once laws s t trace (Yes i l j) (Source r) (p, q, x, y, h) b = not_refused laws s r (p, x) b
verdicts_once laws s t trace (Yes i l j) (Target r) (p, q, x, y, h) b = not_refused laws t r (q, y) b.1
verdicts_once laws s t trace (No n) (Yes i l j) a b =
    let both = together laws.means_once s t (λ e. StopsAt e trace n) (λ e. Proves e trace i.items l.items j) a b in
    laws.not_both both.0 trace n i.items l.items j both.1 both.2
verdicts_once laws s t trace (No m) (No n) a b =
    let both = together laws.means_once s t (λ e. StopsAt e trace m) (λ e. StopsAt e trace n) a b in
    laws.one_line both.0 trace m n both.1 both.2
verdicts_once laws s t trace (No n) (Source r) (p, q, x, y, h) b = not_refused laws s r (p, x) b
verdicts_once laws s t trace (No n) (Target r) (p, q, x, y, h) b = not_refused laws t r (q, y) b.1
verdicts_once laws s t trace (Source r) (Yes i l j) a (p, q, x, y, h) = not_refused laws s r (p, x) a
verdicts_once laws s t trace (Source r) (No n) a (p, q, x, y, h) = not_refused laws s r (p, x) a
verdicts_once laws s t trace (Source r) (Source f) a b = one_refusal laws s r f a b
verdicts_once laws s t trace (Source r) (Target f) a b = not_refused laws s r b.0 a
verdicts_once laws s t trace (Target r) (Yes i l j) a (p, q, x, y, h) = not_refused laws t r (q, y) a.1
verdicts_once laws s t trace (Target r) (No n) a (p, q, x, y, h) = not_refused laws t r (q, y) a.1
verdicts_once laws s t trace (Target r) (Source f) a b = not_refused laws s f a.0 b
verdicts_once laws s t trace (Target r) (Target f) a b = one_refusal laws t r f a.1 b.1

-- ---- a program's own trace
written_of : (text : List ℕ) (p : Program) → IsAcceptedText text p → IsWritten text p
written_of text p a = (a.tree, a.source, a.means)

abbrev pub AcceptedOrRefused : Type 0
AcceptedOrRefused = (text : List ℕ) → ((p : Program) × IsAcceptedText text p) ⊎ ((r : First) × IsTextRefusal text r)

pub yes-proved : TextLaws → (s t : List ℕ) (p q : Program) (first last : List ℕ) (phase : ℕ) (v : Verdict) → IsAcceptedText s p → IsAcceptedText t q
    → Proves (claim_of p q) (trace_of t) first last phase → IsVerdict s t (trace_of t) v → IsYes first last phase v
yes-proved laws s t p q first last phase (Yes i l j) ok good proves (u, w, is, too, other) =
    let source : u ≡ p = laws.means_once s u p (written_of s u is) (written_of s p ok) in
    let target : w ≡ q = laws.means_once t w q (written_of t w too) (written_of t q good) in
    let here : Proves (claim_of p q) (trace_of t) i.items l.items j =
    subst (λ y. Proves (claim_of p y) (trace_of t) i.items l.items j) target
    (subst (λ y. Proves (claim_of y w) (trace_of t) i.items l.items j) source other) in
    let same = laws.one_proof (claim_of p q) (trace_of t) i.items l.items first last j phase here proves in
    (same.0, same.1.0, same.1.1)
yes-proved laws s t p q first last phase (No line) ok good proves (u, w, is, too, other) =
    let source : u ≡ p = laws.means_once s u p (written_of s u is) (written_of s p ok) in
    let target : w ≡ q = laws.means_once t w q (written_of t w too) (written_of t q good) in
    let here : StopsAt (claim_of p q) (trace_of t) line =
    subst (λ y. StopsAt (claim_of p y) (trace_of t) line) target (subst (λ y. StopsAt (claim_of y w) (trace_of t) line) source other) in
    absurd (laws.not_both (claim_of p q) (trace_of t) line first last phase here proves)
yes-proved laws s t p q first last phase (Source r) ok good proves (f, is, code, at) = absurd (laws.no_refusal s p f ok is)
yes-proved laws s t p q first last phase (Target r) ok good proves (readable, (f, is, code, at)) = absurd (laws.no_refusal t q f good is)

pub yes-own : TextLaws → AcceptedOrRefused → (s t : List ℕ) (p q : Program) (first last : List ℕ) (phase : ℕ) (v : Verdict) → IsAcceptedText s p
    → IsWritten t q → ((r : First) → IsTextRefusal t r → ⊥) → Proves (claim_of p q) (trace_of t) first last phase → IsVerdict s t (trace_of t) v
    → IsYes first last phase v
yes-own laws either s t p q first last phase v ok written fine proves is = elim (either t) [
  | inl good ↦ yes-proved laws s t p q first last phase v ok
      (subst (IsAcceptedText t) (laws.means_once t good.0 q (written_of t good.0 good.1) written) good.1) proves is
  | inr refused ↦ absurd (fine refused.0 refused.1)
]
