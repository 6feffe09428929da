-- Open parentheses among the frames.
--   open-kept        what closes at a sign or at the end leaves them
--   waits-kept       behind that the first frame is a parenthesis, or there is none
--   close-first, close-run, close-way   the end of a parenthesis behind a part
--   opens            what the code of expressions needs
use Rattle.std.proofs.Common.{◌≡◌, ℕ, zero, suc, ◌≤◌, Bool, true, false, nat_le, if◌then◌else◌, List, [], ◌∷◌, Option, refl, sym, ap, ◌∙◌, length, arith}
use Rattle.std.proofs.lemmas.Bool.Decides.{nat_tests}
use Rattle.angle_fraction.specs.declared.signs.Binary.{Binary}
use Rattle.angle_fraction.specs.declared.signs.Binary.TheVariants.{Add, Sub, Mul, Div, Pow}
use Rattle.angle_fraction.specs.Fraction.{Fraction}
use Rattle.qasm_parser.specs.declared.symbols.Symbol.{Symbol as CodeSymbol}
use Rattle.qasm_parser.specs.declared.symbols.Symbol.TheVariants.{Mark as CodeMark}
use Rattle.qasm_parser.specs.declared.symbols.Mark.{Mark as MarkSign}
use Rattle.qasm_parser.specs.Symbols.{Symbol, mark}
use Rattle.qasm_parser.specs.Views.{symbol}
use Rattle.qasm_parser.specs.declared.symbols.Mark.TheVariants.{Close}
use Rattle.qasm_parser.specs.Tree.{Expression}
use Rattle.qasm_parser.specs.Machine.{Frame, minus, opened, called, before, Reduced, binding, closed, closes, open_in, parenthesis, reduce, reduced, run, behind, tightness, tightness_of}
use Rattle.qasm_parser.specs.Ways.{finish, holding, shut, stuck, way}

abbrev Kept : List Frame → Reduced → Type 0
Kept fs r = open_in r.frames ≡ open_in fs

-- what binds at all is no parenthesis
binds-open : (b : ℕ) (f : Frame) (fs : List Frame) → 1 ≤ b → nat_le b (tightness f) ≡ true → open_in (f ∷ fs) ≡ open_in fs
binds-open b minus fs h e = refl
binds-open b opened fs h e = absurd (let l : b ≤ 0 = grind (arith, nat_tests) in omega arith)
binds-open b (called f) fs h e = absurd (let l : b ≤ 0 = grind (arith, nat_tests) in omega arith)
binds-open b (before s left) fs h e = refl

pub reduce-open : (limit b : ℕ) (fs : List Frame) (c : Option Expression) → 1 ≤ b → Kept fs (reduce limit b fs c)
reduce-open limit b [] c h = refl
reduce-open limit b (f ∷ fs) c h = by_test (reduce-open limit b fs (closed limit f c) h) (nat_le b (tightness f)) refl
  where
    by_test : Kept fs (reduce limit b fs (closed limit f c)) → (t : Bool) → nat_le b (tightness f) ≡ t
        → Kept (f ∷ fs) (if t then reduce limit b fs (closed limit f c) else reduced (f ∷ fs) c)
    by_test again true e = again ∙ sym (binds-open b f fs h e)
    by_test again false e = refl

pub reduce-waits : (limit b : ℕ) (fs : List Frame) (c : Option Expression) → closes b ((reduce limit b fs c).frames) ≡ false
reduce-waits limit b [] c = refl
reduce-waits limit b (f ∷ fs) c = by_test (reduce-waits limit b fs (closed limit f c)) (nat_le b (tightness f)) refl
  where
    by_test : closes b ((reduce limit b fs (closed limit f c)).frames) ≡ false → (t : Bool) → nat_le b (tightness f) ≡ t
        → closes b ((if t then reduce limit b fs (closed limit f c) else reduced (f ∷ fs) c).frames) ≡ false
    by_test again true e = again
    by_test again false e = e

pub open-kept : (limit b : ℕ) (fs gs : List Frame) (c d : Option Expression) → reduce limit b fs c ≡ reduced gs d → 1 ≤ b → open_in gs ≡ open_in fs
open-kept limit b fs gs c d e h = ap (λ (r : Reduced). open_in r.frames) (sym e) ∙ reduce-open limit b fs c h

pub waits-kept : (limit b : ℕ) (fs gs : List Frame) (c d : Option Expression) → reduce limit b fs c ≡ reduced gs d → closes b gs ≡ false
waits-kept limit b fs gs c d e = ap (λ (r : Reduced). closes b r.frames) (sym e) ∙ reduce-waits limit b fs c

pub binding-some : (s : Binary) → 1 ≤ binding s
binding-some Add = omega arith
binding-some Sub = omega arith
binding-some Mul = omega arith
binding-some Div = omega arith
binding-some Pow = omega arith

-- a frame that waits for the end of its parenthesis
pub open-some : (fs : List Frame) → closes 1 fs ≡ false → (fs ≡ [] → ⊥) → (m : ℕ) × (open_in fs ≡ suc m)
open-some [] h n = absurd (n refl)
open-some (minus ∷ fs) h n = cc
open-some (opened ∷ fs) h n = (open_in fs, refl)
open-some (called f ∷ fs) h n = (open_in fs, refl)
open-some (before s left ∷ fs) h n = by_sign s h
  where
    by_sign : (s : Binary) → nat_le 1 (tightness_of s) ≡ false → (m : ℕ) × (open_in fs ≡ suc m)
    by_sign Add e = cc
    by_sign Sub e = cc
    by_sign Mul e = cc
    by_sign Div e = cc
    by_sign Pow e = cc

pub finish-waits : (fs : List Frame) (ts : List Symbol) → closes 1 fs ≡ false → (fs ≡ [] → ⊥) → finish (open_in fs) ts ≡ stuck (length ts)
finish-waits fs ts h n = let some = open-some fs h n in ap (λ m. finish m ts) some.1

-- the end of a parenthesis behind a part
pub close-first : (s : CodeSymbol) (m : MarkSign) (v : Fraction) (ts us : List Symbol) → ts ≡ symbol s v ∷ us → s ≡ CodeMark m → m ≡ Close → ts ≡ mark Close ∷ us
close-first s m v ts us e h g = e ∙ ap (λ x. symbol x v ∷ us) h ∙ ap (λ k. mark k ∷ us) g

pub close-run : (limit : ℕ) (fs gs : List Frame) (c d : Option Expression) (ts us : List Symbol) → ts ≡ mark Close ∷ us → reduce limit 1 fs c ≡ reduced gs d
    → run limit fs (behind c) ts ≡ parenthesis limit gs d ts
close-run limit fs gs c d ts us is e =
    ap (run limit fs (behind c)) is ∙ ap (λ (r : Reduced). parenthesis limit r.frames r.part (mark Close ∷ us)) e ∙ ap (parenthesis limit gs d) (sym is)

pub close-way : (n k : ℕ) (ts us : List Symbol) → ts ≡ mark Close ∷ us → n ≡ k → way n holding ts ≡ shut k ts
close-way n k ts us is e = ap (λ m. way m holding ts) e ∙ ap (way k holding) is ∙ by_count k ∙ ap (shut k) (sym is)
  where
    by_count : (m : ℕ) → way m holding (mark Close ∷ us) ≡ shut m (mark Close ∷ us)
    by_count zero = refl
    by_count (suc m) = refl

pub ruleset opens = (binding-some, finish-waits)
