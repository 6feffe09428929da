-- What a trace says of two texts, of whatever length.
--     IsReadable text     the text is accepted as a program
--     IsRefused text r    the text has a first refusal, of this code and at this place or statement
--     BothSay s t P       the texts s and t are accepted as programs, and P says so of their claim
--     IsVerdict s t trace v       what is told of the source s, the target t and the trace is so: the trace proves their claim, or
--                         stops at the line; or the source is refused; or the source isn't, and the target is
--     IsRealised s t v    where the verdict v is Yes: the program of the target realises the program of the source, between these
--                         placements, up to this power of w
--     IsSameVerdict v w   two verdicts are of one kind, and have the same numbers
--     IsYes first last phase v   the verdict v is yes, from and to these placements and up to this power of w
use Rattle.std.specs.Prelude.{◌≡◌, ℕ, List}
use Rattle.gate_inline.specs.Programs.{Program}
use Rattle.program_reader.specs.Refusals.{at_of, code_of}
use Rattle.program_reader.specs.Texts.{IsAcceptedText, IsTextRefusal}
use Rattle.program_reader.specs.declared.refusal.ProgramRefusal.{ProgramRefusal as First}
use Rattle.unitary_model.specs.Realises.{Realises}
use Rattle.trace_model.specs.Proves.{Claim, Proves, StopsAt}
use Rattle.circuit_target.specs.Standing.{claim_of}
use Rattle.trace_verdict.specs.declared.verdict.TextRefusal.{TextRefusal}
use Rattle.trace_verdict.specs.declared.verdict.Verdict.{Verdict}
use Rattle.trace_verdict.specs.declared.verdict.Verdict.TheVariants.{Yes, No, Source, Target}

abbrev pub IsReadable : List ℕ → Type 0
IsReadable text = (p : Program) × IsAcceptedText text p

abbrev pub IsRefused : List ℕ → TextRefusal → Type 0
IsRefused text r = (f : First) × IsTextRefusal text f × (r.code ≡ code_of f) × (r.at ≡ at_of f)

abbrev pub BothSay : List ℕ → List ℕ → (Claim → Type 0) → Type 0
BothSay s t P = (p : Program) × (q : Program) × IsAcceptedText s p × IsAcceptedText t q × P (claim_of p q)

abbrev pub IsVerdict : List ℕ → List ℕ → List ℕ → Verdict → Type 0
IsVerdict s t trace (Yes initial last phase) = BothSay s t (λ e. Proves e trace initial.items last.items phase)
IsVerdict s t trace (No line) = BothSay s t (λ e. StopsAt e trace line)
IsVerdict s t trace (Source r) = IsRefused s r
IsVerdict s t trace (Target r) = IsReadable s × IsRefused t r

abbrev pub IsRealised : List ℕ → List ℕ → Verdict → Type 0
IsRealised s t (Yes initial last phase) = (p q : Program) → IsAcceptedText s p → IsAcceptedText t q
    → Realises p.ops p.wires q.ops q.wires initial.items last.items phase
IsRealised s t _ = Unit {0}

abbrev pub IsSameVerdict : Verdict → Verdict → Type 0
IsSameVerdict (Yes initial last phase) (Yes first final power) =
    (initial.items ≡ first.items) × (last.items ≡ final.items) × (phase ≡ power)
IsSameVerdict (No line) (No other) = line ≡ other
IsSameVerdict (Source r) (Source s) = r ≡ s
IsSameVerdict (Target r) (Target s) = r ≡ s
IsSameVerdict _ _ = ⊥

abbrev pub IsYes : List ℕ → List ℕ → ℕ → Verdict → Type 0
IsYes first last phase (Yes i l j) = (i.items ≡ first) × (l.items ≡ last) × (j ≡ phase)
IsYes first last phase _ = ⊥
