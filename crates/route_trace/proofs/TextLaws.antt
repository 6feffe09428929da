-- The bytes of lines, and the lines of bytes.
--     ended-append        the bytes of lines that stand behind others
--     ended-lines         the lines of the bytes of lines give the bytes again
--     NoBreak l           no byte of l is a line break;  NoBreaks ls: none of any of the lines ls
--     lines-ended         lines without a line break are the lines of their bytes
--     spelt-plain         the lines of a trace have none
use Rattle.std.proofs.Common.{◌≡◌, ◌≢◌, ℕ, ◌+◌, ◌%◌, ◌^◌, ◌<◌, Bool, true, false, cond, List, [], ◌∷◌, ◌++◌, length, map, refl, sym, ◌∙◌, ap, subst, arith, append_assoc}
use Rattle.std.specs.Prelude.{codes, nat_eq}
use Rattle.std.specs.Fmt.{decimal}
use Rattle.std.specs.List.{AllByRecursion, flat_map}
use Rattle.std.proofs.lemmas.Bool.Decides.{nat_tests}
use Rattle.std.proofs.lemmas.Fmt.{decimal_by_steps}
use Rattle.std.proofs.lemmas.List.Elements.{recursion_from_All}
use Rattle.circuit_list.specs.declared.Gate.{Gate}
use Rattle.circuit_list.specs.declared.Gate.TheVariants.{H, X, P, Cx}
use Rattle.rewrite_pass.specs.Traces.{Rule, Both, Join, Sums}
use Rattle.rewrite_pass.specs.TraceLines.{gate_line, gate_numbers, words}
use Rattle.trace_model.specs.Lines.{Line, Heading, Rewrite, Part, Phases, Goal, Meet, Place, Emit, Back, Elide, Swap, Turn, End, IsSmall, all_spelt, numbers_of, spelt}
use Rattle.trace_model.specs.Spelling.{AreSmall}
use Rattle.trace_model.proofs.SpellingLaws.{small-split}
use Rattle.trace_text.specs.Texts.{begun, ended, lines_of}

pub ended-append : (a b : List (List ℕ)) → ended (a ++ b) ≡ ended a ++ ended b
ended-append [] b = refl
ended-append (l ∷ a) b = ap (λ t. (l ++ 10 ∷ []) ++ t) (ended-append a b) ∙ sym (append_assoc (l ++ 10 ∷ []) (ended a) (ended b))

-- ---- bytes again
begun-ended : (b : ℕ) (ls : List (List ℕ)) → (ended ls ≡ [] → ⊥) → ended (begun b ls) ≡ b ∷ ended ls
begun-ended b [] h = absurd (h refl)
begun-ended b (l ∷ ls) h = refl

ten : (b : ℕ) → nat_eq b 10 ≡ true → 10 ≡ b
ten b e = grind (arith, nat_tests)

longer : (b : ℕ) (s : List ℕ) → (s ≡ [] → ⊥) → ended (lines_of s) ≡ s → (c : Bool) → nat_eq b 10 ≡ c → ended (cond c ([] ∷ lines_of s) (begun b (lines_of s))) ≡ b ∷ s
longer b s n h true e = λ i. ten b e i ∷ h i
longer b s n h false e = begun-ended b (lines_of s) (λ f. n (sym h ∙ f)) ∙ ap (λ t. b ∷ t) h

some : (l t : List ℕ) → l ++ 10 ∷ t ≡ [] → ⊥
some [] t e = cc
some (b ∷ l) t e = cc

line-again : (l t : List ℕ) → ended (lines_of t) ≡ t → ended (lines_of (l ++ 10 ∷ t)) ≡ l ++ 10 ∷ t
line-again [] t h = ap (λ s. 10 ∷ s) h
line-again (b ∷ l) t h = longer b (l ++ 10 ∷ t) (some l t) (line-again l t h) (nat_eq b 10) refl

pub ended-lines : (ls : List (List ℕ)) → ended (lines_of (ended ls)) ≡ ended ls
ended-lines [] = refl
ended-lines (l ∷ ls) = subst (λ t. ended (lines_of t) ≡ t) (sym (append_assoc l (10 ∷ []) (ended ls))) (line-again l (ended ls) (ended-lines ls))

-- ---- lines again
abbrev pub NoBreak : List ℕ → Type 0
NoBreak l = AllByRecursion (λ b. b ≢ 10) l

abbrev pub NoBreaks : List (List ℕ) → Type 0
NoBreaks ls = AllByRecursion (λ l. NoBreak l) ls

inside : (b : ℕ) → b ≢ 10 → nat_eq b 10 ≡ false
inside b h = grind (arith, nat_tests)

line-first : (l t : List ℕ) → NoBreak l → lines_of (l ++ 10 ∷ t) ≡ l ∷ lines_of t
line-first [] t h = refl
line-first (b ∷ l) t h = λ i. cond (inside b h.0 i) ([] ∷ lines_of (l ++ 10 ∷ t)) (begun b (line-first l t h.1 i))

pub lines-ended : (ls : List (List ℕ)) → NoBreaks ls → lines_of (ended ls) ≡ ls
lines-ended [] h = refl
lines-ended (l ∷ ls) h = ap lines_of (append_assoc l (10 ∷ []) (ended ls)) ∙ line-first l (ended ls) h.0 ∙ ap (λ r. l ∷ r) (lines-ended ls h.1)

-- ---- the lines of a trace
plain-append : (a b : List ℕ) → NoBreak a → NoBreak b → NoBreak (a ++ b)
plain-append [] b h g = g
plain-append (x ∷ a) b h g = (h.0, plain-append a b h.1 g)

lines-append : (a b : List (List ℕ)) → NoBreaks a → NoBreaks b → NoBreaks (a ++ b)
lines-append [] b h g = g
lines-append (l ∷ a) b h g = (h.0, lines-append a b h.1 g)

decimal-plain : (n : ℕ) → n < 2 ^ 64 → NoBreak (decimal n)
decimal-plain n lt = decimal_by_steps (λ k ds. NoBreak ds) (λ k l. ((λ e. absurd (omega arith)), tt)) (λ k ds le h. plain-append ds ((48 + k % 10) ∷ []) h ((λ e. absurd (omega arith)), tt)) n lt

numbers-plain : (ks : List ℕ) → AreSmall ks → NoBreak (flat_map (λ k. 32 ∷ decimal k) ks)
numbers-plain [] h = tt
numbers-plain (k ∷ ks) h = plain-append (32 ∷ decimal k) (flat_map (λ k. 32 ∷ decimal k) ks) ((λ e. absurd (omega (arith, e))), decimal-plain k (omega (arith, h.0))) (numbers-plain ks h.1)

words-plain : (w ks : List ℕ) → NoBreak w → AreSmall ks → NoBreak (words w ks)
words-plain w ks h s = plain-append w (flat_map (λ k. 32 ∷ decimal k) ks) h (numbers-plain ks s)

letter : (a : ℕ) → 10 < a → NoBreak (a ∷ [])
letter a h = ((λ e. absurd (omega arith)), tt)

three : (a b c : ℕ) → 10 < a → 10 < b → 10 < c → NoBreak (a ∷ b ∷ c ∷ [])
three a b c ha hb hc = ((λ e. absurd (omega arith)), ((λ e. absurd (omega arith)), letter c hc))

four : (a b c d : ℕ) → 10 < a → 10 < b → 10 < c → 10 < d → NoBreak (a ∷ b ∷ c ∷ d ∷ [])
four a b c d ha hb hc hd = ((λ e. absurd (omega arith)), three b c d hb hc hd)

five : (a b c d f : ℕ) → 10 < a → 10 < b → 10 < c → 10 < d → 10 < f → NoBreak (a ∷ b ∷ c ∷ d ∷ f ∷ [])
five a b c d f ha hb hc hd hf = ((λ e. absurd (omega arith)), four b c d f hb hc hd hf)

six : (a b c d f g : ℕ) → 10 < a → 10 < b → 10 < c → 10 < d → 10 < f → 10 < g → NoBreak (a ∷ b ∷ c ∷ d ∷ f ∷ g ∷ [])
six a b c d f g ha hb hc hd hf hg = ((λ e. absurd (omega arith)), five b c d f g hb hc hd hf hg)

gate-plain : (g : Gate) → AreSmall (gate_numbers g) → NoBreak (gate_line g)
gate-plain (H q) s = words-plain (codes "H") (q ∷ []) (letter 72 (omega arith)) s
gate-plain (X q) s = words-plain (codes "X") (q ∷ []) (letter 88 (omega arith)) s
gate-plain (P k q) s = words-plain (codes "P") (k ∷ q ∷ []) (letter 80 (omega arith)) s
gate-plain (Cx c t) s = words-plain (codes "C") (c ∷ t ∷ []) (letter 67 (omega arith)) s

gates-plain : (gs : List Gate) → AreSmall (flat_map gate_numbers gs) → NoBreaks (map gate_line gs)
gates-plain [] h = tt
gates-plain (g ∷ gs) h = let s = small-split (gate_numbers g) (flat_map gate_numbers gs) h in (gate-plain g s.0, gates-plain gs s.1)

plain : (l : Line) → AreSmall (numbers_of l) → NoBreaks (spelt l)
plain (Heading v) h = (words-plain (codes "TRACE") (v ∷ []) (five 84 82 65 67 69 (omega arith) (omega arith) (omega arith) (omega arith) (omega arith)) h, tt)
plain (Rewrite (Rule k i)) h = (words-plain (codes "rule") (k ∷ i ∷ []) (four 114 117 108 101 (omega arith) (omega arith) (omega arith) (omega arith)) h, tt)
plain (Rewrite (Both i j)) h = (words-plain (codes "both") (i ∷ j ∷ []) (four 98 111 116 104 (omega arith) (omega arith) (omega arith) (omega arith)) h, tt)
plain (Rewrite (Join i j)) h = (words-plain (codes "join") (i ∷ j ∷ []) (four 106 111 105 110 (omega arith) (omega arith) (omega arith) (omega arith)) h, tt)
plain (Rewrite (Sums gates)) h = (words-plain (codes "sums") (length gates ∷ []) (four 115 117 109 115 (omega arith) (omega arith) (omega arith) (omega arith)) (h.0, tt), gates-plain gates h.1)
plain (Part i j gates) h = (words-plain (codes "part") (i ∷ j ∷ length gates ∷ []) (four 112 97 114 116 (omega arith) (omega arith) (omega arith) (omega arith)) (h.0, (h.1.0, (h.1.1.0, tt))), gates-plain gates h.1.1.1)
plain (Phases gates) h = (words-plain (codes "phases") (length gates ∷ []) (six 112 104 97 115 101 115 (omega arith) (omega arith) (omega arith) (omega arith) (omega arith) (omega arith)) (h.0, tt), gates-plain gates h.1)
plain (Goal gates) h = (words-plain (codes "goal") (length gates ∷ []) (four 103 111 97 108 (omega arith) (omega arith) (omega arith) (omega arith)) (h.0, tt), gates-plain gates h.1)
plain Meet h = (words-plain (codes "meet") [] (four 109 101 101 116 (omega arith) (omega arith) (omega arith) (omega arith)) tt, tt)
plain (Place p) h = (words-plain (codes "place") p (five 112 108 97 99 101 (omega arith) (omega arith) (omega arith) (omega arith) (omega arith)) h, tt)
plain (Emit i) h = (words-plain (codes "emit") (i ∷ []) (four 101 109 105 116 (omega arith) (omega arith) (omega arith) (omega arith)) h, tt)
plain (Back i) h = (words-plain (codes "back") (i ∷ []) (four 98 97 99 107 (omega arith) (omega arith) (omega arith) (omega arith)) h, tt)
plain (Elide i) h = (words-plain (codes "elide") (i ∷ []) (five 101 108 105 100 101 (omega arith) (omega arith) (omega arith) (omega arith) (omega arith)) h, tt)
plain (Swap u v) h = (words-plain (codes "swap") (u ∷ v ∷ []) (four 115 119 97 112 (omega arith) (omega arith) (omega arith) (omega arith)) h, tt)
plain (Turn u v) h = (words-plain (codes "turn") (u ∷ v ∷ []) (four 116 117 114 110 (omega arith) (omega arith) (omega arith) (omega arith)) h, tt)
plain (End j) h = (words-plain (codes "end") (j ∷ []) (three 101 110 100 (omega arith) (omega arith) (omega arith)) h, tt)

pub spelt-plain : (ls : List Line) → AllByRecursion IsSmall ls → NoBreaks (all_spelt ls)
spelt-plain [] h = tt
spelt-plain (l ∷ ls) h = lines-append (spelt l) (all_spelt ls) (plain l (recursion_from_All (λ k. k < 2 ^ 32) (numbers_of l) h.0)) (spelt-plain ls h.1)
