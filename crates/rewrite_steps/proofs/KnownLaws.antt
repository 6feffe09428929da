-- What is remembered of gates that stand far apart.
--   span-there, spans-pushed            one of them, and one more
--   AreSpans-remove, AreSpans-set       spans stay where a gate goes, and where a phase gets another number
--   live-slot, slot-order               slots of gates, and the order of their places
--   slot-clear, place-clear, slot-stops     a gate in a slot commutes with the probe, or doesn't
--   next-between, none-behind           no gate of the wire stands between two slots, or behind one
--   prev-between, none-before           the same the other way round
--   on-between, back-between            what is known up to a slot, and from it on
--   known-between, known-wider          a span with what was looked at on both sides of it
--   some-is, some-not      what an answer that may be missing says
--   free-between, between-free          the same by places
--   phase-free, free-phase, cx-free, free-control, free-target      a gate by its probes
--   x-ends, phase-ends, control-ends, target-ends      the probes of two gates that cancel or merge
use Rattle.std.proofs.Common.{◌≡◌, inl, inr, ◌⊎◌, ℕ, zero, suc, ◌+◌, ◌<◌, ◌≤◌, ◌%◌, Bool, true, false, cond, not, ◌&&◌, ◌||◌, ◌==◌, if◌then◌else◌, List, [], ◌∷◌, ◌++◌, MatchOption, Option, None, Some, is_some, get_or, length, set, refl, sym, subst, ◌∙◌, ap, arith, slice_get}
use Rattle.std.specs.List.{remove}
use Rattle.std.proofs.lemmas.List.Elements.{All-push}
use Rattle.std.proofs.lemmas.Bool.{and_from, cases_lt, eq-eqb, eqb-true, ne_eqb}
use Rattle.std.proofs.lemmas.Bool.Decides.{eqb_tells}
use Rattle.circuit_list.specs.Body.{Body}
use Rattle.circuit_list.specs.declared.Gate.{Gate}
use Rattle.circuit_list.specs.declared.Gate.TheVariants.{H, X, P, Cx}
use Rattle.circuit_list.specs.Gates.{is_on}
use Rattle.circuit_list.specs.Slots.{Ascend, IsLive, IsNextOn, IsPrevOn, NoneBefore, NoneBehind, is_on_at, is_on_some, place_of}
use Rattle.commute_rules.specs.declared.Cancel.TheVariants.{No, Both, Merge}
use Rattle.commute_rules.specs.Cancels.{Cancels, with_phase}
use Rattle.commute_rules.specs.Commutes.{commutes}
use Rattle.rewrite_steps.specs.Known.{AreEnds, AreSpans, IsBetween, IsClear, IsProbe, IsSpan}
use Rattle.rewrite_steps.specs.Pairs.{IsFree}
use Rattle.rewrite_steps.specs.declared.known.Span.{Span}

-- ---- one of the spans, and one more
pub span-there : (gs : List Gate) (slots : List ℕ) (ss : List Span) (i : ℕ) (s : Span) → i < length ss → s ≡ get_or ss i s → AreSpans gs slots ss → IsSpan gs slots s
span-there gs slots ss i s lt e h = subst (IsSpan gs slots) (sym e) (h i s lt)

pub spans-pushed : (gs : List Gate) (slots : List ℕ) (old new : List Span) (s : Span) (b : Bool) → new ≡ (if b then old ++ s ∷ [] else old) → AreSpans gs slots old → IsSpan gs slots s → AreSpans gs slots new
spans-pushed gs slots old new s true e h span = subst (AreSpans gs slots) (sym e) (All-push (IsSpan gs slots) old s h span)
spans-pushed gs slots old new s false e h span = subst (AreSpans gs slots) (sym e) h

-- ---- a list without one element
abbrev past : ℕ → ℕ → ℕ
past zero j = suc j
past (suc i) zero = zero
past (suc i) (suc j) = suc (past i j)

get-remove : {A : Type 0} (xs : List A) (i j : ℕ) (x : A) → slice_get (remove xs i) j ≡ Some x → slice_get xs (past i j) ≡ Some x
get-remove [] zero j x e = absurd (cc)
get-remove [] (suc i) j x e = absurd (cc)
get-remove (y ∷ ys) zero j x e = e
get-remove (y ∷ ys) (suc i) zero x e = e
get-remove (y ∷ ys) (suc i) (suc j) x e = get-remove ys i j x e

span-remove : (gs : List Gate) (slots : List ℕ) (i : ℕ) (s : Span) → IsSpan gs slots s → IsSpan (remove gs i) (remove slots i) s
span-remove gs slots i s h k x g slot gate = h (past i k) x g (get-remove slots i k x slot) (get-remove gs i k g gate)

pub AreSpans-remove : (gs hs : List Gate) (slots more : List ℕ) (i : ℕ) (ss : List Span) → hs ≡ remove gs i → more ≡ remove slots i → AreSpans gs slots ss → AreSpans hs more ss
AreSpans-remove gs hs slots more i ss e f h = λ j d lt.
    subst (λ x. IsSpan x more (get_or ss j d)) (sym e) (subst (λ x. IsSpan (remove gs i) x (get_or ss j d)) (sym f) (span-remove gs slots i (get_or ss j d) (h j d lt)))

-- ---- a phase with another number
-- g and b are the same to each other gate
abbrev AreAlike : Gate → Gate → Type 0
AreAlike g b = (p : Gate) → commutes p b ≡ commutes p g

alike-phases : (j k q : ℕ) → AreAlike (P j q) (P k q)
alike-phases j k q (H r) = refl
alike-phases j k q (X r) = refl
alike-phases j k q (P i r) = refl
alike-phases j k q (Cx c t) = refl

alike-with : (k : ℕ) (g : Gate) → AreAlike g (with_phase k g)
alike-with k (H q) = λ p. refl
alike-with k (X q) = λ p. refl
alike-with k (Cx c t) = λ p. refl
alike-with k (P j q) = alike-phases j k q

record Was (gs : List Gate) (j : ℕ) (b : Gate) : Type 0 where
  old : Gate
  there : slice_get gs j ≡ Some old
  alike : AreAlike old b

was : (gs : List Gate) (i : ℕ) (o g : Gate) (j : ℕ) (b : Gate) → slice_get gs i ≡ Some o → AreAlike o g → slice_get (set gs i g) j ≡ Some b → Was gs j b
was [] i o g j b e a f = absurd (cc)
was (x ∷ xs) zero o g zero b e a f = let same : x ≡ o = cc in let now : g ≡ b = cc in record { old = o; there = ap Some same; alike = subst (AreAlike o) now a }
was (x ∷ xs) zero o g (suc j) b e a f = record { old = b; there = f; alike = λ h. refl }
was (x ∷ xs) (suc i) o g zero b e a f = record { old = b; there = f; alike = λ h. refl }
was (x ∷ xs) (suc i) o g (suc j) b e a f = let w = was xs i o g j b e a f in record { old = w.old; there = w.there; alike = w.alike }

span-set : (gs : List Gate) (slots : List ℕ) (i k : ℕ) (o : Gate) (s : Span) → slice_get gs i ≡ Some o → IsSpan gs slots s → IsSpan (set gs i (with_phase k o)) slots s
span-set gs slots i k o s e h j x b slot gate from to =
    let w = was gs i o (with_phase k o) j b e (alike-with k o) gate in
    w.alike s.probe ∙ h j x w.old slot w.there from to

pub AreSpans-set : (gs hs : List Gate) (slots more : List ℕ) (i k : ℕ) (o g : Gate) (ss : List Span) → slice_get gs i ≡ Some o → g ≡ with_phase k o → hs ≡ set gs i g → more ≡ slots → AreSpans gs slots ss → AreSpans hs more ss
AreSpans-set gs hs slots more i k o g ss e same f m h = λ j d lt.
    subst (λ x. IsSpan x more (get_or ss j d)) (sym (f ∙ ap (set gs i) same)) (subst (λ x. IsSpan (set gs i (with_phase k o)) x (get_or ss j d)) (sym m) (span-set gs slots i k o (get_or ss j d) e (h j d lt)))

-- ---- slots and places
place-get : (s : ℕ) (xs : List ℕ) → place_of s xs < length xs → slice_get xs (place_of s xs) ≡ Some s
place-get s [] h = absurd (omega arith)
place-get s (x ∷ xs) h = at (λ k. place-get s xs k) (s == x) refl h
  where
    at : (place_of s xs < length xs → slice_get xs (place_of s xs) ≡ Some s) → (b : Bool) → (s == x) ≡ b → cond b 0 (suc (place_of s xs)) < suc (length xs)
        → slice_get (x ∷ xs) (cond b 0 (suc (place_of s xs))) ≡ Some s
    at rest true e k = ap Some (sym (eqb-true s x e))
    at rest false e k = rest (omega arith)

same_some : {A : Type 0} (x y : A) → Some x ≡ Some y → x ≡ y
same_some x y e = cc

later : (slots : List ℕ) (i k s x : ℕ) → Ascend slots → slice_get slots i ≡ Some s → slice_get slots k ≡ Some x → s < x → i < k
later slots i k s x up e f lt = elim (cases_lt i k) [
  | inl l ↦ l
  | inr l ↦ elim (cases_lt k i) [
    | inl m ↦ absurd (let less = up k i x s m f e in omega (arith, less, lt))
    | inr m ↦ absurd (let one = equal (omega (arith, l, m)) in omega (arith, one, lt))
  ]
]
  where
    equal : i ≡ k → s ≡ x
    equal same = same_some s x (sym e ∙ ap (slice_get slots) same ∙ f)

-- one slot stands at one place
one-place : (slots : List ℕ) (i k s : ℕ) → Ascend slots → slice_get slots i ≡ Some s → slice_get slots k ≡ Some s → k ≡ i
one-place slots i k s up e f = elim (cases_lt i k) [
  | inl l ↦ absurd (let less = up i k s s l e f in omega (arith, less))
  | inr l ↦ elim (cases_lt k i) [
    | inl m ↦ absurd (let less = up k i s s m f e in omega (arith, less))
    | inr m ↦ omega (arith, l, m)
  ]
]

get-some : {A : Type 0} (xs : List A) (k : ℕ) → k < length xs → (x : A) × (slice_get xs k ≡ Some x)
get-some [] k lt = absurd (omega arith)
get-some (x ∷ xs) zero lt = (x, refl)
get-some (x ∷ xs) (suc k) lt = get-some xs k (omega (arith, lt))

get-within : {A : Type 0} (xs : List A) (k : ℕ) (x : A) → slice_get xs k ≡ Some x → k < length xs
get-within [] k x e = absurd (cc)
get-within (y ∷ ys) zero x e = omega arith
get-within (y ∷ ys) (suc k) x e = let l = get-within ys k x e in omega (arith, l)

clash : (b : Bool) → b ≡ true → b ≡ false → ⊥
clash b e f = cc

-- ---- an answer that is there, or isn't
pub some-is : {A : Type 0} (o : Option ℕ) (r : Bool) → r ≡ is_some o → r ≡ true → MatchOption o (A → ⊥) (λ _. A) → A
some-is (Some n) r e y h = h
some-is None r e y h = absurd (clash r y e)

pub some-not : {A : Type 0} (o : Option ℕ) (r : Bool) → r ≡ is_some o → r ≡ false → MatchOption o (A → ⊥) (λ _. A) → A → ⊥
some-not (Some n) r e y h = absurd (clash r e y)
some-not None r e y h = h

-- ---- one gate
pub slot-clear : (g : Gate) (gs : List Gate) (slots : List ℕ) (s i : ℕ) (b : Gate) → Ascend slots → slice_get slots i ≡ Some s → slice_get gs i ≡ Some b → commutes g b ≡ true → IsClear g gs slots s s
slot-clear g gs slots s i b up e there ok k x h slot gate from to = subst (λ z. commutes g z ≡ true) (same_some b h (sym there ∙ ap (slice_get gs) (sym place) ∙ gate)) ok
  where
    same : x ≡ s
    same = omega (arith, from, to)

    place : k ≡ i
    place = one-place slots i k s up e (slot ∙ ap Some same)

pub live-slot : (b : Body) → length b.slots ≡ length b.gates → (s : ℕ) → IsLive b s → place_of s b.slots < length b.slots
live-slot b long s live = subst (λ n. place_of s b.slots < n) (sym long) live

pub place-clear : (g : Gate) (gs : List Gate) (slots : List ℕ) (s : ℕ) (b : Gate) → Ascend slots → place_of s slots < length slots → slice_get gs (place_of s slots) ≡ Some b → commutes g b ≡ true → IsClear g gs slots s s
place-clear g gs slots s b up live there ok = slot-clear g gs slots s (place_of s slots) b up (place-get s slots live) there ok

pub slot-stops : (g : Gate) (gs : List Gate) (slots : List ℕ) (s t n : ℕ) (b : Gate) → place_of n slots < length slots → slice_get gs (place_of n slots) ≡ Some b → commutes g b ≡ false →
    s < n → n < t → IsBetween g gs slots s t → ⊥
slot-stops g gs slots s t n b live there stops from to clear = clash (commutes g b) (clear (place_of n slots) n b (place-get n slots live) there from to) stops

-- ---- along a wire
off-wire : (w : ℕ) (g : Gate) (gs : List Gate) (k : ℕ) (h : Gate) → IsProbe w g → slice_get gs k ≡ Some h → is_on_at w gs k ≡ false → commutes g h ≡ true
off-wire w g gs k h probe gate off = probe h (ap (is_on_some w) (sym gate) ∙ off)

pub none-behind : (w : ℕ) (g : Gate) (gs : List Gate) (slots : List ℕ) (a t : ℕ) → Ascend slots → IsProbe w g → place_of a slots < length slots →
    NoneBehind w gs (place_of a slots) → IsBetween g gs slots a t
none-behind w g gs slots a t up probe live none k x h slot gate from to =
    off-wire w g gs k h probe gate (none k (later slots (place_of a slots) k a x up (place-get a slots live) slot from))

pub none-before : (w : ℕ) (g : Gate) (gs : List Gate) (slots : List ℕ) (a s : ℕ) → Ascend slots → IsProbe w g → place_of a slots < length slots →
    NoneBefore w gs (place_of a slots) → IsBetween g gs slots s a
none-before w g gs slots a s up probe live none k x h slot gate from to =
    off-wire w g gs k h probe gate (none k (later slots k (place_of a slots) x a up slot (place-get a slots live) to))

pub next-between : (w : ℕ) (g : Gate) (gs : List Gate) (slots : List ℕ) (a n : ℕ) → Ascend slots → IsProbe w g → place_of a slots < length slots → place_of n slots < length slots →
    IsNextOn w gs (place_of a slots) (place_of n slots) → IsBetween g gs slots a n
next-between w g gs slots a n up probe live other next k x h slot gate from to =
    off-wire w g gs k h probe gate (next.none k (later slots (place_of a slots) k a x up (place-get a slots live) slot from) (later slots k (place_of n slots) x n up slot (place-get n slots other) to))

pub prev-between : (w : ℕ) (g : Gate) (gs : List Gate) (slots : List ℕ) (a n : ℕ) → Ascend slots → IsProbe w g → place_of a slots < length slots → place_of n slots < length slots →
    IsPrevOn w gs (place_of a slots) (place_of n slots) → IsBetween g gs slots n a
prev-between w g gs slots a n up probe live other prev k x h slot gate from to =
    off-wire w g gs k h probe gate (prev.none k (later slots (place_of n slots) k n x up (place-get n slots other) slot from) (later slots k (place_of a slots) x a up slot (place-get a slots live) to))

pub slot-order : (slots : List ℕ) (a n : ℕ) → Ascend slots → place_of a slots < length slots → place_of n slots < length slots → place_of a slots < place_of n slots → a < n
slot-order slots a n up live other lt = up (place_of a slots) (place_of n slots) a n lt (place-get a slots live) (place-get n slots other)

-- what is known up to a slot, and with it, goes on
pub on-between : (g : Gate) (gs : List Gate) (slots : List ℕ) (s a t : ℕ) → IsBetween g gs slots s (a + 1) → IsBetween g gs slots a t → IsBetween g gs slots s t
on-between g gs slots s a t before after k x h slot gate from to = elim (cases_lt a x) [
  | inl l ↦ after k x h slot gate l to
  | inr l ↦ before k x h slot gate from (omega (arith, l))
]

pub on-more : (g : Gate) (gs : List Gate) (slots : List ℕ) (s a n : ℕ) → IsBetween g gs slots s (a + 1) → IsBetween g gs slots a n → IsClear g gs slots n n → IsBetween g gs slots s (n + 1)
on-more g gs slots s a n before after here k x h slot gate from to = elim (cases_lt x n) [
  | inl l ↦ on-between g gs slots s a n before after k x h slot gate from l
  | inr l ↦ here k x h slot gate l (omega (arith, to))
]

pub less-between : (g : Gate) (gs : List Gate) (slots : List ℕ) (s t u v : ℕ) → s ≤ u → v ≤ t → IsBetween g gs slots s t → IsBetween g gs slots u v
less-between g gs slots s t u v low high clear k x h slot gate from to = clear k x h slot gate (omega (arith, low, from)) (omega (arith, high, to))

-- from a slot on, with it, up to another
abbrev pub IsFrom : Gate → List Gate → List ℕ → ℕ → ℕ → Type 0
IsFrom g gs slots a t = (k x : ℕ) (h : Gate) → slice_get slots k ≡ Some x → slice_get gs k ≡ Some h → a ≤ x → x < t → commutes g h ≡ true

pub back-between : (g : Gate) (gs : List Gate) (slots : List ℕ) (s a t : ℕ) → IsFrom g gs slots a t → IsBetween g gs slots s a → IsBetween g gs slots s t
back-between g gs slots s a t after before k x h slot gate from to = elim (cases_lt x a) [
  | inl l ↦ before k x h slot gate from l
  | inr l ↦ after k x h slot gate l to
]

pub back-more : (g : Gate) (gs : List Gate) (slots : List ℕ) (n a t : ℕ) → IsFrom g gs slots a t → IsBetween g gs slots n a → IsClear g gs slots n n → IsFrom g gs slots n t
back-more g gs slots n a t after before here k x h slot gate from to = elim (cases_lt n x) [
  | inl l ↦ back-between g gs slots n a t after before k x h slot gate l to
  | inr l ↦ here k x h slot gate from l
]

-- ---- a span with what was looked at on both sides of it
pub known-between : (g : Gate) (gs : List Gate) (slots : List ℕ) (s a b t : ℕ) → IsBetween g gs slots s a → IsClear g gs slots a b → IsBetween g gs slots b t → IsBetween g gs slots s t
known-between g gs slots s a b t before span after k x h slot gate from to = elim (cases_lt x a) [
  | inl l ↦ before k x h slot gate from l
  | inr l ↦ elim (cases_lt b x) [
    | inl m ↦ after k x h slot gate m to
    | inr m ↦ span k x h slot gate l m
  ]
]

pub known-wider : (g : Gate) (gs : List Gate) (slots : List ℕ) (s a b t low high : ℕ) → ((low ≡ s) × (s ≤ a)) ⊎ ((low ≡ a) × (a ≤ s)) → ((high ≡ t) × (b ≤ t)) ⊎ ((high ≡ b) × (t ≤ b)) →
    IsClear g gs slots s s → IsClear g gs slots t t → IsBetween g gs slots s a → IsClear g gs slots a b → IsBetween g gs slots b t → IsClear g gs slots low high
known-wider g gs slots s a b t low high l u first last before span after k x h slot gate from to = elim (cases_lt x a) [
  | inl m ↦ front l m
  | inr m ↦ elim (cases_lt b x) [
    | inl n ↦ rear u n
    | inr n ↦ span k x h slot gate m n
  ]
]
  where
    front : ((low ≡ s) × (s ≤ a)) ⊎ ((low ≡ a) × (a ≤ s)) → x < a → commutes g h ≡ true
    front (inl e) m = elim (cases_lt s x) [
      | inl n ↦ before k x h slot gate n m
      | inr n ↦ first k x h slot gate (omega (arith, e.0, from)) n
    ]
    front (inr e) m = absurd (omega (arith, e.0, from, m))

    rear : ((high ≡ t) × (b ≤ t)) ⊎ ((high ≡ b) × (t ≤ b)) → b < x → commutes g h ≡ true
    rear (inl e) m = elim (cases_lt x t) [
      | inl n ↦ after k x h slot gate m n
      | inr n ↦ last k x h slot gate n (omega (arith, e.0, to))
    ]
    rear (inr e) m = absurd (omega (arith, e.0, to, m))

-- ---- by places
pub between-free : (g : Gate) (gs : List Gate) (slots : List ℕ) (i j s t : ℕ) → Ascend slots → length slots ≡ length gs → slice_get slots i ≡ Some s → slice_get slots j ≡ Some t →
    IsBetween g gs slots s t → IsFree g gs i j
between-free g gs slots i j s t up long e f clear k h from to gate =
    let x = get-some slots k (subst (λ n. k < n) (sym long) (get-within gs k h gate)) in
    clear k x.0 h x.1 gate (up i k s x.0 from e x.1) (up k j x.0 t to x.1 f)

pub free-between : (g : Gate) (gs : List Gate) (slots : List ℕ) (i j s t : ℕ) → Ascend slots → slice_get slots i ≡ Some s → slice_get slots j ≡ Some t →
    IsFree g gs i j → IsBetween g gs slots s t
free-between g gs slots i j s t up e f free k x h slot gate from to =
    free k h (later slots i k s x up e slot from) (later slots k j x t up slot f to) gate

-- ---- a gate by its probes
flip : (m s : ℕ) → (m == s) ≡ (s == m)
flip m s = elim (eqb_tells m s) [
  | inl p ↦ p.0 ∙ sym (eq-eqb s m (sym p.1))
  | inr p ↦ p.0 ∙ sym (ne_eqb s m (λ e. p.1 (sym e)))
]

phase-probe : (k q : ℕ) (h : Gate) → commutes (P k q) h ≡ commutes (P 1 q) h
phase-probe k q (H r) = refl
phase-probe k q (X r) = refl
phase-probe k q (P i r) = refl
phase-probe k q (Cx c t) = refl

cx-probes : (c t : ℕ) (h : Gate) → commutes (Cx c t) h ≡ (commutes (P 1 c) h && commutes (X t) h)
cx-probes c t (H r) = ap (λ b. not b && not (r == t)) (flip r c) ∙ ap (λ b. not (c == r) && not b) (flip r t)
cx-probes c t (X r) = ap not (flip r c) ∙ sym (with_true (not (c == r)))
  where
    with_true : (b : Bool) → (b && true) ≡ b
    with_true true = refl
    with_true false = refl
cx-probes c t (P k r) = ap not (flip r t)
cx-probes c t (Cx d u) = refl

pub phase-free : (k q : ℕ) (gs : List Gate) (i j : ℕ) → IsFree (P 1 q) gs i j → IsFree (P k q) gs i j
phase-free k q gs i j free n h from to gate = phase-probe k q h ∙ free n h from to gate

pub free-phase : (k q : ℕ) (gs : List Gate) (i j : ℕ) → IsFree (P k q) gs i j → IsFree (P 1 q) gs i j
free-phase k q gs i j free n h from to gate = sym (phase-probe k q h) ∙ free n h from to gate

pub cx-free : (c t : ℕ) (gs : List Gate) (i j : ℕ) → IsFree (P 1 c) gs i j → IsFree (X t) gs i j → IsFree (Cx c t) gs i j
cx-free c t gs i j control target n h from to gate = cx-probes c t h ∙ and_from (commutes (P 1 c) h) (commutes (X t) h) (control n h from to gate) (target n h from to gate)

both-true : (x y : Bool) → (x && y) ≡ true → (x ≡ true) × (y ≡ true)
both-true true y e = (refl, e)
both-true false y e = absurd (clash false e refl)

pub free-control : (c t : ℕ) (gs : List Gate) (i j : ℕ) → IsFree (Cx c t) gs i j → IsFree (P 1 c) gs i j
free-control c t gs i j free n h from to gate = (both-true (commutes (P 1 c) h) (commutes (X t) h) (sym (cx-probes c t h) ∙ free n h from to gate)).0

pub free-target : (c t : ℕ) (gs : List Gate) (i j : ℕ) → IsFree (Cx c t) gs i j → IsFree (X t) gs i j
free-target c t gs i j free n h from to gate = (both-true (commutes (P 1 c) h) (commutes (X t) h) (sym (cx-probes c t h) ∙ free n h from to gate)).1

-- ---- probes
or-false : (x y : Bool) → (x || y) ≡ false → (x ≡ false) × (y ≡ false)
or-false true y e = absurd (clash true refl e)
or-false false y e = (refl, e)

pub x-probe : (q : ℕ) → IsProbe q (X q)
x-probe q (H r) off = ap not off
x-probe q (X r) off = refl
x-probe q (P k r) off = ap not off
x-probe q (Cx c t) off = ap not (or-false (q == c) (q == t) off).0

pub phase-probes : (k q : ℕ) → IsProbe q (P k q)
phase-probes k q (H r) off = ap not off
phase-probes k q (X r) off = ap not off
phase-probes k q (P j r) off = refl
phase-probes k q (Cx c t) off = ap not (or-false (q == c) (q == t) off).1

pub h-probe : (q : ℕ) → IsProbe q (H q)
h-probe q (H r) off = ap not off
h-probe q (X r) off = ap not off
h-probe q (P k r) off = ap not off
h-probe q (Cx c t) off = let e = or-false (q == c) (q == t) off in and_from (not (q == c)) (not (q == t)) (ap not e.0) (ap not e.1)

-- two gates that cancel or merge are on the same wires, and the same to each other gate
abbrev AreSame : Gate → Gate → Type 0
AreSame g h = AreAlike g h × ((w : ℕ) → is_on w h ≡ is_on w g)

same-gates : (g h : Gate) → g ≡ h → AreSame g h
same-gates g h e = subst (AreSame g) e (λ p. refl, λ w. refl)

pair-same : (g h : Gate) → Cancels g h → AreSame g h
pair-same (H q) (H r) some = go (q == r) refl some
  where
    go : (c : Bool) → (q == r) ≡ c → (cond c (Both 6) No ≡ No → ⊥) → AreSame (H q) (H r)
    go true e n = same-gates (H q) (H r) (ap H (eqb-true q r e))
    go false e n = absurd (n refl)
pair-same (X q) (X r) some = go (q == r) refl some
  where
    go : (c : Bool) → (q == r) ≡ c → (cond c (Both 4) No ≡ No → ⊥) → AreSame (X q) (X r)
    go true e n = same-gates (X q) (X r) (ap X (eqb-true q r e))
    go false e n = absurd (n refl)
pair-same (P j q) (P k r) some = go (q == r) refl some
  where
    go : (c : Bool) → (q == r) ≡ c → (cond c (cond ((j + k) % 8 == 0) (Both 0) (Merge ((j + k) % 8))) No ≡ No → ⊥) → AreSame (P j q) (P k r)
    go true e n = subst (λ p. AreSame (P j q) (P k p)) (eqb-true q r e) (alike-phases j k q, λ w. refl)
    go false e n = absurd (n refl)
pair-same (Cx c t) (Cx d u) some = go (c == d) refl (t == u) refl some
  where
    go : (a : Bool) → (c == d) ≡ a → (b : Bool) → (t == u) ≡ b → (cond (a && b) (Both 0) No ≡ No → ⊥) → AreSame (Cx c t) (Cx d u)
    go true e true f n = same-gates (Cx c t) (Cx d u) (ap (λ p. Cx p t) (eqb-true c d e) ∙ ap (Cx d) (eqb-true t u f))
    go true e false f n = absurd (n refl)
    go false e b f n = absurd (n refl)
pair-same (H q) (X r) some = absurd (some refl)
pair-same (H q) (P k r) some = absurd (some refl)
pair-same (H q) (Cx c t) some = absurd (some refl)
pair-same (X q) (H r) some = absurd (some refl)
pair-same (X q) (P k r) some = absurd (some refl)
pair-same (X q) (Cx c t) some = absurd (some refl)
pair-same (P j q) (H r) some = absurd (some refl)
pair-same (P j q) (X r) some = absurd (some refl)
pair-same (P j q) (Cx c t) some = absurd (some refl)
pair-same (Cx c t) (H q) some = absurd (some refl)
pair-same (Cx c t) (X q) some = absurd (some refl)
pair-same (Cx c t) (P k q) some = absurd (some refl)

-- the probe p of wire w, where gates g and h that cancel or merge stand at the places i and j
ends : (w : ℕ) (p g h : Gate) (b : Body) (i j s t : ℕ) → Ascend b.slots → length b.slots ≡ length b.gates → slice_get b.gates i ≡ Some g → slice_get b.gates j ≡ Some h → i < j → Cancels g h →
    slice_get b.slots i ≡ Some s → slice_get b.slots j ≡ Some t → place_of s b.slots ≡ i → place_of t b.slots ≡ j →
    is_on w g ≡ true → commutes p g ≡ true → IsProbe w p → AreEnds w p b s t
ends w p g h b i j s t up long e f lt some here there first last on ok probe =
    let same = pair-same g h some in
    let less = up i j s t lt here there in
    record {
      first = subst (λ n. n < length b.gates) (sym first) (get-within b.gates i g e);
      last = subst (λ n. n < length b.gates) (sym last) (get-within b.gates j h f);
      ordered = omega (arith, less);
      on_first = ap (is_on_at w b.gates) first ∙ ap (is_on_some w) e ∙ on;
      on_last = ap (is_on_at w b.gates) last ∙ ap (is_on_some w) f ∙ same.1 w ∙ on;
      clear_first = slot-clear p b.gates b.slots s i g up here e ok;
      clear_last = slot-clear p b.gates b.slots t j h up there f (same.0 p ∙ ok);
      probe = probe;
    }

itself : (q : ℕ) → (q == q) ≡ true
itself q = eq-eqb q q refl

pub x-ends : (q : ℕ) (h : Gate) (b : Body) (i j s t : ℕ) → Ascend b.slots → length b.slots ≡ length b.gates → slice_get b.gates i ≡ Some (X q) → slice_get b.gates j ≡ Some h → i < j → Cancels (X q) h →
    slice_get b.slots i ≡ Some s → slice_get b.slots j ≡ Some t → place_of s b.slots ≡ i → place_of t b.slots ≡ j → AreEnds q (X q) b s t
x-ends q h b i j s t up long e f lt some here there first last = ends q (X q) (X q) h b i j s t up long e f lt some here there first last (itself q) refl (x-probe q)

pub phase-ends : (k q : ℕ) (h : Gate) (b : Body) (i j s t : ℕ) → Ascend b.slots → length b.slots ≡ length b.gates → slice_get b.gates i ≡ Some (P k q) → slice_get b.gates j ≡ Some h → i < j → Cancels (P k q) h →
    slice_get b.slots i ≡ Some s → slice_get b.slots j ≡ Some t → place_of s b.slots ≡ i → place_of t b.slots ≡ j → AreEnds q (P 1 q) b s t
phase-ends k q h b i j s t up long e f lt some here there first last = ends q (P 1 q) (P k q) h b i j s t up long e f lt some here there first last (itself q) refl (phase-probes 1 q)

pub control-ends : (c u : ℕ) (h : Gate) (b : Body) (i j s t : ℕ) → (c ≡ u → ⊥) → Ascend b.slots → length b.slots ≡ length b.gates → slice_get b.gates i ≡ Some (Cx c u) → slice_get b.gates j ≡ Some h → i < j → Cancels (Cx c u) h →
    slice_get b.slots i ≡ Some s → slice_get b.slots j ≡ Some t → place_of s b.slots ≡ i → place_of t b.slots ≡ j → AreEnds c (P 1 c) b s t
control-ends c u h b i j s t differ up long e f lt some here there first last =
    ends c (P 1 c) (Cx c u) h b i j s t up long e f lt some here there first last (ap (λ x. x || (c == u)) (itself c)) (ap not (ne_eqb c u differ)) (phase-probes 1 c)

pub target-ends : (c u : ℕ) (h : Gate) (b : Body) (i j s t : ℕ) → (c ≡ u → ⊥) → Ascend b.slots → length b.slots ≡ length b.gates → slice_get b.gates i ≡ Some (Cx c u) → slice_get b.gates j ≡ Some h → i < j → Cancels (Cx c u) h →
    slice_get b.slots i ≡ Some s → slice_get b.slots j ≡ Some t → place_of s b.slots ≡ i → place_of t b.slots ≡ j → AreEnds u (X u) b s t
target-ends c u h b i j s t differ up long e f lt some here there first last =
    ends u (X u) (Cx c u) h b i j s t up long e f lt some here there first last (or-right (u == c) (u == u) (itself u)) (ap not (ne_eqb u c (λ d. differ (sym d)))) (x-probe u)
  where
    or-right : (x y : Bool) → y ≡ true → (x || y) ≡ true
    or-right true y o = refl
    or-right false y o = o
