-- A text of any length is accepted, or has a refusal.
--   WholeLaws        laws of the stages, as they are handed in
--   accepted_or_refused   the law of texts
use Rattle.std.proofs.Common.{◌≢◌, ℕ, List, refl, ◌⊎◌, inl, inr}
use Rattle.qasm_lexer.specs.Tokens.{AreTokens, IsLexFault}
use Rattle.qasm_lexer.specs.declared.LexFault.{LexFault}
use Rattle.qasm_lexer.specs.declared.LexFault.TheVariants as lexing
use Rattle.qasm_lexer.specs.declared.Token.{Token}
use Rattle.qasm_parser.specs.Parsing.{IsParseFault, IsProgram}
use Rattle.qasm_parser.specs.Tree.{Tree}
use Rattle.qasm_parser.specs.declared.ParseFault.{ParseFault}
use Rattle.qasm_parser.specs.declared.ParseFault.TheVariants as parsing
use Rattle.qasm_check.specs.Bound.{Bound, barriers}
use Rattle.qasm_check.specs.Checking.{IsCheckRefused, IsFineTree, bound}
use Rattle.qasm_check.specs.declared.refusal.CheckRefused.{CheckRefused as Checked}
use Rattle.gate_expand.specs.declared.source.Ops.{Ops}
use Rattle.gate_inline.specs.Inlined.{IsInlineRefused, IsInlined}
use Rattle.gate_inline.specs.Programs.{IsSource, IsTreeOf, Program}
use Rattle.gate_inline.specs.declared.refusal.InlineRefused.{InlineRefused as Inlined}
use Rattle.program_reader.specs.Texts.{IsAcceptedText, IsTextRefusal}
use Rattle.program_reader.specs.declared.refusal.ProgramRefusal.{ProgramRefusal}
use Rattle.program_reader.specs.declared.refusal.ProgramRefusal.TheVariants.{BadByte, Number, Syntax, Version, Depth, Check, Inline}
use Rattle.program_reader.proofs.ReaderLaws.{AreCut}

abbrev pub LexedOrRefused : Type 0
LexedOrRefused = (text : List ℕ) → ((tokens : List Token) × AreTokens text tokens) ⊎ ((fault : LexFault) × (fault ≢ lexing.NoMemory) × IsLexFault text fault)

abbrev pub ParsedOrRefused : Type 0
ParsedOrRefused = (text : List ℕ) (tokens : List Token)
    → ((t : Tree) × IsProgram text tokens t) ⊎ ((fault : ParseFault) × (fault ≢ parsing.NoMemory) × IsParseFault text tokens fault)

abbrev pub CheckedOrRefused : Type 0
CheckedOrRefused = (t : Tree) → IsFineTree t ⊎ ((r : Checked) × IsCheckRefused t r)

abbrev pub InlinedOrRefused : Type 0
InlinedOrRefused = (b : Bound) → ((o : Ops) × IsInlined b o) ⊎ ((r : Inlined) × IsInlineRefused b r.refusal r.statement)

pub record WholeLaws : Type 0 where
  pub lexed : LexedOrRefused
  pub parsed : ParsedOrRefused
  pub checked : CheckedOrRefused
  pub inlined : InlinedOrRefused
  pub cut : AreCut

abbrev Whole : List ℕ → Type 0
Whole text = ((p : Program) × IsAcceptedText text p) ⊎ ((r : ProgramRefusal) × IsTextRefusal text r)

written : AreCut → (text : List ℕ) (t : Tree) (o : Ops) → IsSource text t → IsInlined (bound t) o → Whole text
written law text t o source h =
    let c = law (bound t).gates (bound t).steps o.list h.list in
    inl (
      record { wires = o.wires; ops = o.list; cut = c.0; reads = o.reads; registers = (bound t).registers; barriers = barriers (bound t) },
      record {
        tree = t;
        source = source;
        few = h.small;
        means = record { wires = h.wires; ops = h.list; cut = c.1; reads = h.reads; registers = refl; barriers = refl };
      },
    )

inlined : WholeLaws → (text : List ℕ) (t : Tree) → IsSource text t → Whole text
inlined laws text t source = elim (laws.inlined (bound t)) [
  | inl h ↦ written laws.cut text t h.0 source h.1
  | inr r ↦ inr (Inline r.0, (t, source, r.1))
]

checked : WholeLaws → (text : List ℕ) (t : Tree) → IsTreeOf text t → Whole text
checked laws text t is = elim (laws.checked t) [
  | inl fine ↦ inlined laws text t (is, fine)
  | inr r ↦ inr (Check r.0, (t, is, r.1))
]

misspelt : (text : List ℕ) (tokens : List Token) (fault : ParseFault) → AreTokens text tokens → fault ≢ parsing.NoMemory → IsParseFault text tokens fault → Whole text
misspelt text tokens (parsing.Syntax place) lx some h = inr (Syntax place, (tokens, lx, h))
misspelt text tokens (parsing.Version place) lx some h = inr (Version place, (tokens, lx, h))
misspelt text tokens (parsing.Depth place) lx some h = inr (Depth place, (tokens, lx, h))
misspelt text tokens parsing.NoMemory lx some h = absurd (some refl)

parsed : WholeLaws → (text : List ℕ) (tokens : List Token) → AreTokens text tokens → Whole text
parsed laws text tokens lx = elim (laws.parsed text tokens) [
  | inl t ↦ checked laws text t.0 (tokens, lx, t.1)
  | inr f ↦ misspelt text tokens f.0 lx f.1 f.2
]

unlexed : (text : List ℕ) (fault : LexFault) → fault ≢ lexing.NoMemory → IsLexFault text fault → Whole text
unlexed text (lexing.BadByte place) some h = inr (BadByte place, h)
unlexed text (lexing.Number place) some h = inr (Number place, h)
unlexed text lexing.NoMemory some h = absurd (some refl)

pub accepted_or_refused : WholeLaws → (text : List ℕ) → ((p : Program) × IsAcceptedText text p) ⊎ ((r : ProgramRefusal) × IsTextRefusal text r)
accepted_or_refused laws text = elim (laws.lexed text) [
  | inl ts ↦ parsed laws text ts.0 ts.1
  | inr f ↦ unlexed text f.0 f.1 f.2
]
