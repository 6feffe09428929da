-- A text of any length has one refusal at most.
--   LexRefusedOnce, ParseRefusedOnce, CheckRefusedOnce, InlineRefusedOnce, OnceLaws     laws of the stages, as they are handed in
--   Told text r     a refusal of a text, by the stage that tells it
--   told            each refusal is one of these
--   told_once       two of them are one refusal
--   refused_once    so a text has one
use Rattle.std.proofs.Common.{◌≡◌, ◌≢◌, ℕ, List, refl, sym, subst, ◌∙◌, ap}
use Rattle.qasm_lexer.specs.Tokens.{IsLexFault}
use Rattle.qasm_lexer.specs.declared.LexFault.{LexFault}
use Rattle.qasm_lexer.specs.declared.LexFault.TheVariants as lexing
use Rattle.qasm_lexer.specs.declared.Token.{Token}
use Rattle.qasm_parser.specs.Parsing.{IsParseFault}
use Rattle.qasm_parser.specs.Tree.{Tree}
use Rattle.qasm_parser.specs.declared.ParseFault.{ParseFault}
use Rattle.qasm_parser.specs.declared.ParseFault.TheVariants as parsing
use Rattle.qasm_check.specs.Bound.{Bound}
use Rattle.qasm_check.specs.Checking.{IsCheckRefused, IsFineTree, bound}
use Rattle.qasm_check.specs.declared.refusal.CheckFault.TheVariants as checking
use Rattle.qasm_check.specs.declared.refusal.CheckRefused.{CheckRefused as Checked}
use Rattle.gate_inline.specs.Inlined.{IsInlineRefused}
use Rattle.gate_inline.specs.Programs.{IsSource, IsTreeOf}
use Rattle.gate_inline.specs.declared.refusal.InlineRefused.{InlineRefused as Inlined}
use Rattle.program_reader.specs.Refusals.{lex_fault, parse_fault}
use Rattle.program_reader.specs.Texts.{IsTextRefusal, IsUnparsed}
use Rattle.program_reader.specs.declared.refusal.ProgramRefusal.{ProgramRefusal}
use Rattle.program_reader.specs.declared.refusal.ProgramRefusal.TheVariants.{TooLong, BadByte, Number, Syntax, Version, Depth, Check, Inline}
use Rattle.program_reader.specs.declared.refusal.ProgramFault.TheVariants.{Refused, NoMemory}
use Rattle.program_reader.proofs.ReaderLaws.{Laws, tree-once, unlexed, unparsed}

abbrev pub LexRefusedOnce : Type 0
LexRefusedOnce = (text : List ℕ) (a b : LexFault) → IsLexFault text a → IsLexFault text b → a ≢ lexing.NoMemory → b ≢ lexing.NoMemory → a ≡ b

abbrev pub ParseRefusedOnce : Type 0
ParseRefusedOnce = (text : List ℕ) (tokens : List Token) (a b : ParseFault) → IsParseFault text tokens a → IsParseFault text tokens b
    → a ≢ parsing.NoMemory → b ≢ parsing.NoMemory → a ≡ b

abbrev pub CheckRefusedOnce : Type 0
CheckRefusedOnce = (t : Tree) (a b : Checked) → IsCheckRefused t a → IsCheckRefused t b → a ≡ b

abbrev pub InlineRefusedOnce : Type 0
InlineRefusedOnce = (b : Bound) (p q : Inlined) → IsInlineRefused b p.refusal p.statement → IsInlineRefused b q.refusal q.statement → p ≡ q

-- what the reader's stages promise of refusals
pub record OnceLaws : Type 0 where
  pub laws : Laws
  pub lex_refused_once : LexRefusedOnce
  pub parse_refused_once : ParseRefusedOnce
  pub check_refused_once : CheckRefusedOnce
  pub inline_refused_once : InlineRefusedOnce

-- ---- by the stage that tells it
data Told (text : List ℕ) (r : ProgramRefusal) : Type 0 where
  by_lexer : (e : LexFault) → IsLexFault text e → Refused r ≡ lex_fault e → Told text r
  by_parser : (e : ParseFault) → IsUnparsed text e → Refused r ≡ parse_fault e → Told text r
  by_checks : (t : Tree) (e : Checked) → IsTreeOf text t → IsCheckRefused t e → r ≡ Check e → Told text r
  by_inlining : (t : Tree) (e : Inlined) → IsSource text t → IsInlineRefused (bound t) e.refusal e.statement → r ≡ Inline e → Told text r

told : (text : List ℕ) (r : ProgramRefusal) → IsTextRefusal text r → Told text r
told text TooLong f = absurd f
told text (BadByte place) f = by_lexer (lexing.BadByte place) f refl
told text (Number place) f = by_lexer (lexing.Number place) f refl
told text (Syntax place) f = by_parser (parsing.Syntax place) f refl
told text (Version place) f = by_parser (parsing.Version place) f refl
told text (Depth place) f = by_parser (parsing.Depth place) f refl
told text (Check e) (t, is, f) = by_checks t e is f refl
told text (Inline e) (t, is, f) = by_inlining t e is f refl

refused_same : (r s : ProgramRefusal) → Refused r ≡ Refused s → r ≡ s
refused_same r s e = cc

-- ---- what is told is no want of memory
lexed_some : (r : ProgramRefusal) (e : LexFault) → Refused r ≡ lex_fault e → e ≢ lexing.NoMemory
lexed_some r e is none = let no : Refused r ≡ NoMemory = is ∙ ap lex_fault none in cc

parsed_some : (r : ProgramRefusal) (e : ParseFault) → Refused r ≡ parse_fault e → e ≢ parsing.NoMemory
parsed_some r e is none = let no : Refused r ≡ NoMemory = is ∙ ap parse_fault none in cc

-- ---- one stage, twice
lexed_same : (r s : ProgramRefusal) (e f : LexFault) → e ≡ f → Refused r ≡ lex_fault e → Refused s ≡ lex_fault f → r ≡ s
lexed_same r s e f same h k = refused_same r s (h ∙ ap lex_fault same ∙ sym k)

parsed_same : (r s : ProgramRefusal) (e f : ParseFault) → e ≡ f → Refused r ≡ parse_fault e → Refused s ≡ parse_fault f → r ≡ s
parsed_same r s e f same h k = refused_same r s (h ∙ ap parse_fault same ∙ sym k)

-- ---- two stages
lexed_unparsed : Laws → (text : List ℕ) (r : ProgramRefusal) (e : LexFault) (f : ParseFault) → Refused r ≡ lex_fault e → IsLexFault text e → IsUnparsed text f → ⊥
lexed_unparsed laws text r e f is h (tokens, lx, k) = lexed_some r e is (laws.no_lex_fault text tokens e lx h)

lexed_tree : Laws → (text : List ℕ) (r : ProgramRefusal) (e : LexFault) (t : Tree) → Refused r ≡ lex_fault e → IsLexFault text e → IsTreeOf text t → ⊥
lexed_tree laws text r e t is h tree = lexed_some r e is (unlexed laws text t e tree h)

parsed_tree : Laws → (text : List ℕ) (r : ProgramRefusal) (e : ParseFault) (t : Tree) → Refused r ≡ parse_fault e → IsUnparsed text e → IsTreeOf text t → ⊥
parsed_tree laws text r e t is h tree = parsed_some r e is (unparsed laws text t e tree h)

checked_source : Laws → (text : List ℕ) (t u : Tree) (e : Checked) → IsTreeOf text t → IsCheckRefused t e → IsSource text u → ⊥
checked_source laws text t u e is h (also, fine) =
    let same = tree-once laws.lexed_once laws.spelt_once text u t also is in
    let none = laws.no_check_fault t (checking.Refused e) (subst (λ (x : Tree). IsFineTree x) same fine) h in
    cc

-- ---- one refusal
told_once : OnceLaws → (text : List ℕ) (r s : ProgramRefusal) → Told text r → Told text s → r ≡ s
told_once all text r s (by_lexer e h is) (by_lexer f k also) =
    lexed_same r s e f (all.lex_refused_once text e f h k (lexed_some r e is) (lexed_some s f also)) is also
told_once all text r s (by_lexer e h is) (by_parser f k also) = absurd (lexed_unparsed all.laws text r e f is h k)
told_once all text r s (by_lexer e h is) (by_checks u f too k also) = absurd (lexed_tree all.laws text r e u is h too)
told_once all text r s (by_lexer e h is) (by_inlining u f too k also) = absurd (lexed_tree all.laws text r e u is h too.0)
told_once all text r s (by_parser e h is) (by_lexer f k also) = absurd (lexed_unparsed all.laws text s f e also k h)
told_once all text r s (by_parser e (xs, lx, h) is) (by_parser f (ys, ly, k) also) =
    let same = all.laws.lexed_once text ys xs ly lx in
    let there = subst (λ (ts : List Token). IsParseFault text ts f) same k in
    parsed_same r s e f (all.parse_refused_once text xs e f h there (parsed_some r e is) (parsed_some s f also)) is also
told_once all text r s (by_parser e h is) (by_checks u f too k also) = absurd (parsed_tree all.laws text r e u is h too)
told_once all text r s (by_parser e h is) (by_inlining u f too k also) = absurd (parsed_tree all.laws text r e u is h too.0)
told_once all text r s (by_checks t e tree h is) (by_lexer f k also) = absurd (lexed_tree all.laws text s f t also k tree)
told_once all text r s (by_checks t e tree h is) (by_parser f k also) = absurd (parsed_tree all.laws text s f t also k tree)
told_once all text r s (by_checks t e tree h is) (by_checks u f too k also) =
    let same = tree-once all.laws.lexed_once all.laws.spelt_once text u t too tree in
    let one = all.check_refused_once t e f h (subst (λ (x : Tree). IsCheckRefused x f) same k) in
    is ∙ ap Check one ∙ sym also
told_once all text r s (by_checks t e tree h is) (by_inlining u f too k also) = absurd (checked_source all.laws text t u e tree h too)
told_once all text r s (by_inlining t e tree h is) (by_lexer f k also) = absurd (lexed_tree all.laws text s f t also k tree.0)
told_once all text r s (by_inlining t e tree h is) (by_parser f k also) = absurd (parsed_tree all.laws text s f t also k tree.0)
told_once all text r s (by_inlining t e tree h is) (by_checks u f too k also) = absurd (checked_source all.laws text u t f too k tree)
told_once all text r s (by_inlining t e tree h is) (by_inlining u f too k also) =
    let same = tree-once all.laws.lexed_once all.laws.spelt_once text u t too.0 tree.0 in
    let one = all.inline_refused_once (bound t) e f h (subst (λ (x : Tree). IsInlineRefused (bound x) f.refusal f.statement) same k) in
    is ∙ ap Inline one ∙ sym also

pub refused_once : OnceLaws → (text : List ℕ) (r s : ProgramRefusal) → IsTextRefusal text r → IsTextRefusal text s → r ≡ s
refused_once all text r s f g = told_once all text r s (told text r f) (told text s g)
