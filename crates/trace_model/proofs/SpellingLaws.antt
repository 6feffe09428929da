-- A text is read as lines of a trace in one way.
--     cut                     bytes without a space, with a space or nothing behind them, are cut at one place
--     words-unique            a word and its numbers are known by their bytes
--     gate-unique, gates-unique       so are a gate, and gates
--     kind_of l, line_word, first_numbers, line_gates    a line as its word, that word's bytes, its numbers, and the gates behind it
--     spelling-plain          no word has a space
--     word_from, spelling-read, line_from, line-read    and back
--     spelt-unique            a line, and what is behind it, are known by their bytes
use Rattle.std.proofs.Common.{◌≡◌, ℕ, ◌+◌, ◌%◌, ◌^◌, ◌<◌, Bool, true, false, cond, List, [], ◌∷◌, ◌++◌, length, map, refl, sym, ◌∙◌, ap, arith, Option, None, Some}
use Rattle.std.specs.Prelude.{codes, nat_eq}
use Rattle.std.specs.Fmt.{decimal}
use Rattle.std.specs.List.{flat_map}
use Rattle.std.proofs.lemmas.Fmt.{decimal_injective, decimal_by_steps}
use Rattle.std.proofs.lemmas.List.Elements.{recursion_from_All}
use Rattle.circuit_list.specs.declared.Gate.{Gate}
use Rattle.circuit_list.specs.declared.Gate.TheVariants.{H, X, P, Cx}
use Rattle.rewrite_pass.specs.Traces.{Rule, Both, Join, Sums}
use Rattle.rewrite_pass.specs.TraceLines.{words, gate_line, gate_numbers}
use Rattle.trace_model.specs.Lines.{Line, Heading, Rewrite, Part, Phases, Goal, Meet, Place, Emit, Back, Elide, Swap, Turn, End, spelt, numbers_of, IsSmall}
use Rattle.trace_model.specs.declared.word.Word.{Word}
use Rattle.trace_model.specs.declared.word.Word.TheVariants as word
use Rattle.trace_model.specs.Spelling.{AreSmall, HasNoSpace, gate_word, spelling}

NoSpace-append : (a b : List ℕ) → HasNoSpace a → HasNoSpace b → HasNoSpace (a ++ b)
NoSpace-append [] b h g = g
NoSpace-append (x ∷ a) b h g = (h.0, NoSpace-append a b h.1 g)

pub NoSpace-decimal : (n : ℕ) → n < 2 ^ 64 → HasNoSpace (decimal n)
NoSpace-decimal n lt = decimal_by_steps (λ k ds. HasNoSpace ds) (λ k l. ((λ e. absurd (omega arith)), tt)) (λ k ds le h. NoSpace-append ds ((48 + k % 10) ∷ []) h ((λ e. absurd (omega arith)), tt)) n lt

abbrev pub tail : List ℕ → List ℕ
tail ks = flat_map (λ k. 32 ∷ decimal k) ks

-- two beginnings without a space, and then a space or nothing
pub record Cut (a b s t : List ℕ) : Type 0 where
  pub front : a ≡ b
  pub back : s ≡ t

abbrev pub Spaced : List ℕ → Type 0
Spaced [] = Unit {0}
Spaced (b ∷ l) = b ≡ 32

cut-cons : (x y : ℕ) (a b s t : List ℕ) → x ≡ y → Cut a b s t → Cut (x ∷ a) (y ∷ b) s t
cut-cons x y a b s t e c = record { front = (λ i. e i ∷ c.front i); back = c.back }

pub cut : (a b s t : List ℕ) → HasNoSpace a → HasNoSpace b → Spaced s → Spaced t → a ++ s ≡ b ++ t → Cut a b s t
cut [] [] s t na nb ss st e = record { front = refl; back = e }
cut [] (y ∷ b) [] t na nb ss st e = absurd (cc)
cut [] (y ∷ b) (z ∷ s) t na nb ss st e = absurd (nb.0 (let f : z ≡ y = cc in sym f ∙ ss))
cut (x ∷ a) [] s [] na nb ss st e = absurd (cc)
cut (x ∷ a) [] s (z ∷ t) na nb ss st e = absurd (na.0 (let f : x ≡ z = cc in f ∙ st))
cut (x ∷ a) (y ∷ b) s t na nb ss st e = let f : x ≡ y = cc in let g : a ++ s ≡ b ++ t = cc in cut-cons x y a b s t f (cut a b s t na.1 nb.1 ss st g)

pub tail-spaced : (ks : List ℕ) → Spaced (tail ks)
tail-spaced [] = tt
tail-spaced (k ∷ ks) = refl

more : (k l : ℕ) (ks ls : List ℕ) → k ≡ l → ks ≡ ls → k ∷ ks ≡ l ∷ ls
more k l ks ls e f = λ i. e i ∷ f i

tail-unique : (ks ls : List ℕ) → AreSmall ks → AreSmall ls → tail ks ≡ tail ls → ks ≡ ls
tail-unique [] [] hk hl e = refl
tail-unique [] (l ∷ ls) hk hl e = absurd (cc)
tail-unique (k ∷ ks) [] hk hl e = absurd (cc)
tail-unique (k ∷ ks) (l ∷ ls) hk hl e =
    let lk : k < 2 ^ 64 = omega (arith, hk.0) in
    let ll : l < 2 ^ 64 = omega (arith, hl.0) in
    let g : decimal k ++ tail ks ≡ decimal l ++ tail ls = cc in
    let c = cut (decimal k) (decimal l) (tail ks) (tail ls) (NoSpace-decimal k lk) (NoSpace-decimal l ll) (tail-spaced ks) (tail-spaced ls) g in
    more k l ks ls (decimal_injective k l lk ll c.front) (tail-unique ks ls hk.1 hl.1 c.back)

pub words-unique : (w v ks ls : List ℕ) → HasNoSpace w → HasNoSpace v → AreSmall ks → AreSmall ls → words w ks ≡ words v ls → (w ≡ v) × (ks ≡ ls)
words-unique w v ks ls nw nv hk hl e =
    let c = cut w v (tail ks) (tail ls) nw nv (tail-spaced ks) (tail-spaced ls) e in
    (c.front, tail-unique ks ls hk hl c.back)

-- ---- gates
pub gate-spelt : (g : Gate) → gate_line g ≡ words (gate_word g) (gate_numbers g)
gate-spelt (H q) = refl
gate-spelt (X q) = refl
gate-spelt (P k q) = refl
gate-spelt (Cx c t) = refl

pub gate-plain : (g : Gate) → HasNoSpace (gate_word g)
gate-plain (H q) = ((λ e. absurd (omega (arith, e))), tt)
gate-plain (X q) = ((λ e. absurd (omega (arith, e))), tt)
gate-plain (P k q) = ((λ e. absurd (omega (arith, e))), tt)
gate-plain (Cx c t) = ((λ e. absurd (omega (arith, e))), tt)

abbrev one : (ℕ → Gate) → List ℕ → Option Gate
one f (q ∷ []) = Some (f q)
one f _ = None

abbrev two : (ℕ → ℕ → Gate) → List ℕ → Option Gate
two f (k ∷ q ∷ []) = Some (f k q)
two f _ = None

abbrev pub same_bytes : List ℕ → List ℕ → Bool
same_bytes [] [] = true
same_bytes (a ∷ x) (b ∷ y) = cond (nat_eq a b) (same_bytes x y) false
same_bytes _ _ = false

abbrev gate_from : List ℕ → List ℕ → Option Gate
gate_from w ks =
    cond (same_bytes w (codes "H")) (one (λ q. H q) ks)
    (cond (same_bytes w (codes "X")) (one (λ q. X q) ks)
    (cond (same_bytes w (codes "P")) (two (λ k q. P k q) ks) (two (λ c t. Cx c t) ks)))

gate-read : (g : Gate) → gate_from (gate_word g) (gate_numbers g) ≡ Some g
gate-read (H q) = refl
gate-read (X q) = refl
gate-read (P k q) = refl
gate-read (Cx c t) = refl

some : {A : Type 0} (a b : A) → ◌≡◌ {A = Option A} (Some a) (Some b) → a ≡ b
some a b e = cc

pub gate-unique : (g h : Gate) → AreSmall (gate_numbers g) → AreSmall (gate_numbers h) → gate_line g ≡ gate_line h → g ≡ h
gate-unique g h sg sh e =
    let u = words-unique (gate_word g) (gate_word h) (gate_numbers g) (gate_numbers h) (gate-plain g) (gate-plain h) sg sh (sym (gate-spelt g) ∙ e ∙ gate-spelt h) in
    some g h (sym (gate-read g) ∙ (λ i. gate_from (u.0 i) (u.1 i)) ∙ gate-read h)

pub small-split : (a b : List ℕ) → AreSmall (a ++ b) → AreSmall a × AreSmall b
small-split [] b h = (tt, h)
small-split (k ∷ a) b h = let r = small-split a b h.1 in ((h.0, r.0), r.1)

pub record SameGates (gs hs : List Gate) (r s : List (List ℕ)) : Type 0 where
  pub gates : gs ≡ hs
  pub rest : r ≡ s

gates-cons : (g h : Gate) (gs hs : List Gate) (r s : List (List ℕ)) → g ≡ h → SameGates gs hs r s → SameGates (g ∷ gs) (h ∷ hs) r s
gates-cons g h gs hs r s e f = record { gates = (λ i. e i ∷ f.gates i); rest = f.rest }

pub gates-unique : (gs hs : List Gate) (r s : List (List ℕ)) → AreSmall (flat_map gate_numbers gs) → AreSmall (flat_map gate_numbers hs) → length gs ≡ length hs → map gate_line gs ++ r ≡ map gate_line hs ++ s → SameGates gs hs r s
gates-unique [] [] r s sg sh len e = record { gates = refl; rest = e }
gates-unique [] (h ∷ hs) r s sg sh len e = absurd (omega (arith, len))
gates-unique (g ∷ gs) [] r s sg sh len e = absurd (omega (arith, len))
gates-unique (g ∷ gs) (h ∷ hs) r s sg sh len e =
    let a = small-split (gate_numbers g) (flat_map gate_numbers gs) sg in
    let b = small-split (gate_numbers h) (flat_map gate_numbers hs) sh in
    let f : gate_line g ≡ gate_line h = cc in
    let t : map gate_line gs ++ r ≡ map gate_line hs ++ s = cc in
    gates-cons g h gs hs r s (gate-unique g h a.0 b.0 f) (gates-unique gs hs r s a.1 b.1 (omega (arith, len)) t)

-- ---- lines
abbrev pub kind_of : Line → Word
kind_of (Heading v) = word.Trace
kind_of (Rewrite (Rule k i)) = word.Rule
kind_of (Rewrite (Both i j)) = word.Both
kind_of (Rewrite (Join i j)) = word.Join
kind_of (Rewrite (Sums gates)) = word.Sums
kind_of (Part i j gates) = word.Part
kind_of (Phases gates) = word.Phases
kind_of (Goal gates) = word.Goal
kind_of Meet = word.Meet
kind_of (Place p) = word.Place
kind_of (Emit i) = word.Emit
kind_of (Back i) = word.Back
kind_of (Elide i) = word.Elide
kind_of (Swap u v) = word.Swap
kind_of (Turn u v) = word.Turn
kind_of (End j) = word.End

abbrev pub line_word : Line → List ℕ
line_word l = spelling (kind_of l)

-- the numbers of its first line
abbrev pub first_numbers : Line → List ℕ
first_numbers (Heading v) = v ∷ []
first_numbers (Rewrite (Rule k i)) = k ∷ i ∷ []
first_numbers (Rewrite (Both i j)) = i ∷ j ∷ []
first_numbers (Rewrite (Join i j)) = i ∷ j ∷ []
first_numbers (Rewrite (Sums gates)) = length gates ∷ []
first_numbers (Part i j gates) = i ∷ j ∷ length gates ∷ []
first_numbers (Phases gates) = length gates ∷ []
first_numbers (Goal gates) = length gates ∷ []
first_numbers Meet = []
first_numbers (Place p) = p
first_numbers (Emit i) = i ∷ []
first_numbers (Back i) = i ∷ []
first_numbers (Elide i) = i ∷ []
first_numbers (Swap u v) = u ∷ v ∷ []
first_numbers (Turn u v) = u ∷ v ∷ []
first_numbers (End j) = j ∷ []

abbrev pub line_gates : Line → List Gate
line_gates (Heading v) = []
line_gates (Rewrite (Rule k i)) = []
line_gates (Rewrite (Both i j)) = []
line_gates (Rewrite (Join i j)) = []
line_gates (Rewrite (Sums gates)) = gates
line_gates (Part i j gates) = gates
line_gates (Phases gates) = gates
line_gates (Goal gates) = gates
line_gates Meet = []
line_gates (Place p) = []
line_gates (Emit i) = []
line_gates (Back i) = []
line_gates (Elide i) = []
line_gates (Swap u v) = []
line_gates (Turn u v) = []
line_gates (End j) = []

pub first-spelt : (l : Line) → spelt l ≡ words (line_word l) (first_numbers l) ∷ map gate_line (line_gates l)
first-spelt (Heading v) = refl
first-spelt (Rewrite (Rule k i)) = refl
first-spelt (Rewrite (Both i j)) = refl
first-spelt (Rewrite (Join i j)) = refl
first-spelt (Rewrite (Sums gates)) = refl
first-spelt (Part i j gates) = refl
first-spelt (Phases gates) = refl
first-spelt (Goal gates) = refl
first-spelt Meet = refl
first-spelt (Place p) = refl
first-spelt (Emit i) = refl
first-spelt (Back i) = refl
first-spelt (Elide i) = refl
first-spelt (Swap u v) = refl
first-spelt (Turn u v) = refl
first-spelt (End j) = refl

plain4 : (a b c d : ℕ) → 32 < a → 32 < b → 32 < c → 32 < d → HasNoSpace (a ∷ b ∷ c ∷ d ∷ [])
plain4 a b c d ha hb hc hd = ((λ e. absurd (omega arith)), ((λ e. absurd (omega arith)), ((λ e. absurd (omega arith)), ((λ e. absurd (omega arith)), tt))))

plain5 : (a b c d f : ℕ) → 32 < a → 32 < b → 32 < c → 32 < d → 32 < f → HasNoSpace (a ∷ b ∷ c ∷ d ∷ f ∷ [])
plain5 a b c d f ha hb hc hd hf = ((λ e. absurd (omega arith)), plain4 b c d f hb hc hd hf)

plain6 : (a b c d f g : ℕ) → 32 < a → 32 < b → 32 < c → 32 < d → 32 < f → 32 < g → HasNoSpace (a ∷ b ∷ c ∷ d ∷ f ∷ g ∷ [])
plain6 a b c d f g ha hb hc hd hf hg = ((λ e. absurd (omega arith)), plain5 b c d f g hb hc hd hf hg)

pub spelling-plain : (w : Word) → HasNoSpace (spelling w)
spelling-plain word.Trace = plain5 84 82 65 67 69 (omega arith) (omega arith) (omega arith) (omega arith) (omega arith)
spelling-plain word.Rule = plain4 114 117 108 101 (omega arith) (omega arith) (omega arith) (omega arith)
spelling-plain word.Both = plain4 98 111 116 104 (omega arith) (omega arith) (omega arith) (omega arith)
spelling-plain word.Join = plain4 106 111 105 110 (omega arith) (omega arith) (omega arith) (omega arith)
spelling-plain word.Sums = plain4 115 117 109 115 (omega arith) (omega arith) (omega arith) (omega arith)
spelling-plain word.Part = plain4 112 97 114 116 (omega arith) (omega arith) (omega arith) (omega arith)
spelling-plain word.Phases = plain6 112 104 97 115 101 115 (omega arith) (omega arith) (omega arith) (omega arith) (omega arith) (omega arith)
spelling-plain word.Goal = plain4 103 111 97 108 (omega arith) (omega arith) (omega arith) (omega arith)
spelling-plain word.Meet = plain4 109 101 101 116 (omega arith) (omega arith) (omega arith) (omega arith)
spelling-plain word.Place = plain5 112 108 97 99 101 (omega arith) (omega arith) (omega arith) (omega arith) (omega arith)
spelling-plain word.Emit = plain4 101 109 105 116 (omega arith) (omega arith) (omega arith) (omega arith)
spelling-plain word.Back = plain4 98 97 99 107 (omega arith) (omega arith) (omega arith) (omega arith)
spelling-plain word.Elide = plain5 101 108 105 100 101 (omega arith) (omega arith) (omega arith) (omega arith) (omega arith)
spelling-plain word.Swap = plain4 115 119 97 112 (omega arith) (omega arith) (omega arith) (omega arith)
spelling-plain word.Turn = plain4 116 117 114 110 (omega arith) (omega arith) (omega arith) (omega arith)
spelling-plain word.End = ((λ e. absurd (omega (arith, e))), ((λ e. absurd (omega (arith, e))), ((λ e. absurd (omega (arith, e))), tt)))

pub first-small : (l : Line) → AreSmall (numbers_of l) → AreSmall (first_numbers l)
first-small (Heading v) h = h
first-small (Rewrite (Rule k i)) h = h
first-small (Rewrite (Both i j)) h = h
first-small (Rewrite (Join i j)) h = h
first-small (Rewrite (Sums gates)) h = (h.0, tt)
first-small (Part i j gates) h = (h.0, (h.1.0, (h.1.1.0, tt)))
first-small (Phases gates) h = (h.0, tt)
first-small (Goal gates) h = (h.0, tt)
first-small Meet h = h
first-small (Place p) h = h
first-small (Emit i) h = h
first-small (Back i) h = h
first-small (Elide i) h = h
first-small (Swap u v) h = h
first-small (Turn u v) h = h
first-small (End j) h = h

gates-small : (l : Line) → AreSmall (numbers_of l) → AreSmall (flat_map gate_numbers (line_gates l))
gates-small (Heading v) h = tt
gates-small (Rewrite (Rule k i)) h = tt
gates-small (Rewrite (Both i j)) h = tt
gates-small (Rewrite (Join i j)) h = tt
gates-small (Rewrite (Sums gates)) h = h.1
gates-small (Part i j gates) h = h.1.1.1
gates-small (Phases gates) h = h.1
gates-small (Goal gates) h = h.1
gates-small Meet h = tt
gates-small (Place p) h = tt
gates-small (Emit i) h = tt
gates-small (Back i) h = tt
gates-small (Elide i) h = tt
gates-small (Swap u v) h = tt
gates-small (Turn u v) h = tt
gates-small (End j) h = tt

abbrev pub with_one : (ℕ → Line) → List ℕ → Option Line
with_one f (i ∷ []) = Some (f i)
with_one f _ = None

abbrev pub with_two : (ℕ → ℕ → Line) → List ℕ → Option Line
with_two f (i ∷ j ∷ []) = Some (f i j)
with_two f _ = None

abbrev pub with_three : (ℕ → ℕ → ℕ → Line) → List ℕ → Option Line
with_three f (i ∷ j ∷ k ∷ []) = Some (f i j k)
with_three f _ = None

-- ---- and back
abbrev pub word_from : List ℕ → Word
word_from b =
    cond (same_bytes b (codes "TRACE")) word.Trace
    (cond (same_bytes b (codes "rule")) word.Rule
    (cond (same_bytes b (codes "both")) word.Both
    (cond (same_bytes b (codes "join")) word.Join
    (cond (same_bytes b (codes "sums")) word.Sums
    (cond (same_bytes b (codes "part")) word.Part
    (cond (same_bytes b (codes "phases")) word.Phases
    (cond (same_bytes b (codes "goal")) word.Goal
    (cond (same_bytes b (codes "meet")) word.Meet
    (cond (same_bytes b (codes "place")) word.Place
    (cond (same_bytes b (codes "emit")) word.Emit
    (cond (same_bytes b (codes "back")) word.Back
    (cond (same_bytes b (codes "elide")) word.Elide
    (cond (same_bytes b (codes "swap")) word.Swap
    (cond (same_bytes b (codes "turn")) word.Turn word.End))))))))))))))

pub spelling-read : (w : Word) → word_from (spelling w) ≡ w
spelling-read word.Trace = refl
spelling-read word.Rule = refl
spelling-read word.Both = refl
spelling-read word.Join = refl
spelling-read word.Sums = refl
spelling-read word.Part = refl
spelling-read word.Phases = refl
spelling-read word.Goal = refl
spelling-read word.Meet = refl
spelling-read word.Place = refl
spelling-read word.Emit = refl
spelling-read word.Back = refl
spelling-read word.Elide = refl
spelling-read word.Swap = refl
spelling-read word.Turn = refl
spelling-read word.End = refl

abbrev line_with : Word → List ℕ → List Gate → Option Line
line_with word.Trace ks gs = with_one (λ v. Heading v) ks
line_with word.Rule ks gs = with_two (λ k i. Rewrite (Rule k i)) ks
line_with word.Both ks gs = with_two (λ i j. Rewrite (Both i j)) ks
line_with word.Join ks gs = with_two (λ i j. Rewrite (Join i j)) ks
line_with word.Sums ks gs = Some (Rewrite (Sums gs))
line_with word.Part ks gs = with_three (λ i j k. Part i j gs) ks
line_with word.Phases ks gs = Some (Phases gs)
line_with word.Goal ks gs = Some (Goal gs)
line_with word.Meet ks gs = Some Meet
line_with word.Place ks gs = Some (Place ks)
line_with word.Emit ks gs = with_one (λ i. Emit i) ks
line_with word.Back ks gs = with_one (λ i. Back i) ks
line_with word.Elide ks gs = with_one (λ i. Elide i) ks
line_with word.Swap ks gs = with_two (λ u v. Swap u v) ks
line_with word.Turn ks gs = with_two (λ u v. Turn u v) ks
line_with word.End ks gs = with_one (λ j. End j) ks

abbrev pub line_from : List ℕ → List ℕ → List Gate → Option Line
line_from w ks gs = line_with (word_from w) ks gs

pub line-read : (l : Line) → line_from (line_word l) (first_numbers l) (line_gates l) ≡ Some l
line-read (Heading v) = refl
line-read (Rewrite (Rule k i)) = refl
line-read (Rewrite (Both i j)) = refl
line-read (Rewrite (Join i j)) = refl
line-read (Rewrite (Sums gates)) = refl
line-read (Part i j gates) = refl
line-read (Phases gates) = refl
line-read (Goal gates) = refl
line-read Meet = refl
line-read (Place p) = refl
line-read (Emit i) = refl
line-read (Back i) = refl
line-read (Elide i) = refl
line-read (Swap u v) = refl
line-read (Turn u v) = refl
line-read (End j) = refl

-- how many gates stand behind a first line
abbrev gate_count : List ℕ → List ℕ → ℕ
gate_count w (k ∷ []) = cond (same_bytes w (codes "sums")) k (cond (same_bytes w (codes "phases")) k (cond (same_bytes w (codes "goal")) k 0))
gate_count w (i ∷ j ∷ k ∷ []) = cond (same_bytes w (codes "part")) k 0
gate_count w _ = 0

length-gates : (l : Line) → length (line_gates l) ≡ gate_count (line_word l) (first_numbers l)
length-gates (Heading v) = refl
length-gates (Rewrite (Rule k i)) = refl
length-gates (Rewrite (Both i j)) = refl
length-gates (Rewrite (Join i j)) = refl
length-gates (Rewrite (Sums gates)) = refl
length-gates (Part i j gates) = refl
length-gates (Phases gates) = refl
length-gates (Goal gates) = refl
length-gates Meet = refl
length-gates (Place []) = refl
length-gates (Place (k ∷ [])) = refl
length-gates (Place (k ∷ (j ∷ []))) = refl
length-gates (Place (k ∷ (j ∷ (i ∷ [])))) = refl
length-gates (Place (k ∷ (j ∷ (i ∷ (h ∷ p))))) = refl
length-gates (Emit i) = refl
length-gates (Back i) = refl
length-gates (Elide i) = refl
length-gates (Swap u v) = refl
length-gates (Turn u v) = refl
length-gates (End j) = refl

pub record SameLine (l m : Line) (r s : List (List ℕ)) : Type 0 where
  pub line : l ≡ m
  pub rest : r ≡ s

pub spelt-unique : (l m : Line) (r s : List (List ℕ)) → IsSmall l → IsSmall m → spelt l ++ r ≡ spelt m ++ s → SameLine l m r s
spelt-unique l m r s hl hm e =
    let sl = recursion_from_All (λ k. k < 2 ^ 32) (numbers_of l) hl in
    let sm = recursion_from_All (λ k. k < 2 ^ 32) (numbers_of m) hm in
    let whole : words (line_word l) (first_numbers l) ∷ (map gate_line (line_gates l) ++ r) ≡ words (line_word m) (first_numbers m) ∷ (map gate_line (line_gates m) ++ s) =
    ap (λ x. x ++ r) (sym (first-spelt l)) ∙ e ∙ ap (λ x. x ++ s) (first-spelt m) in
    let front : words (line_word l) (first_numbers l) ≡ words (line_word m) (first_numbers m) = cc in
    let back : map gate_line (line_gates l) ++ r ≡ map gate_line (line_gates m) ++ s = cc in
    let u = words-unique (line_word l) (line_word m) (first_numbers l) (first_numbers m) (spelling-plain (kind_of l)) (spelling-plain (kind_of m)) (first-small l sl) (first-small m sm) front in
    let g = gates-unique (line_gates l) (line_gates m) r s (gates-small l sl) (gates-small m sm) (length-gates l ∙ (λ i. gate_count (u.0 i) (u.1 i)) ∙ sym (length-gates m)) back in
    record { line = some l m (sym (line-read l) ∙ (λ i. line_from (u.0 i) (u.1 i) (g.gates i)) ∙ line-read m); rest = g.rest }
