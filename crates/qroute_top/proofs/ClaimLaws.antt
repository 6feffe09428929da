-- Claims on two texts: how `verify` ends.
--   IsTextStop-text, IsTextStop-read   why a text isn't had as a program
--   IsClaimStop-source, IsClaimStop-target, IsClaimStop-trace   why the claim isn't proved
--   Readable, Traceable      laws of the reader and of traces, as they are handed in
--   trace-short              the trace of a text is short enough for the checker
--   same_ending              on texts that are told `verify` ends in one way
--   ending-unrefused         .. with 0 or 1 where both are there and neither is refused
--   ended-claim, ended-verified   from the cause of a stop, and from what is verified, to the way in which it ends
use Rattle.std.proofs.Common.{◌≡◌, ◌⊎◌, None, inl, inr, ℕ, ◌<◌, ◌≤◌, List, Option, Some, Result, Ok, Err, refl, sym, ap, ◌∙◌, arith, subst, length, false, []}
use Rattle.outside_io.specs.Causes.{Rose}
use Rattle.outside_io.specs.Shelf.{HasNoText, IsTextCause, TellsText}
use Rattle.outside_io.specs.declared.TextFault.{TextFault}
use Rattle.outside_io.specs.declared.TextFault.TheVariants as text_fault
use Rattle.gate_inline.specs.Programs.{IsWritten, Program, kept}
use Rattle.program_parts.specs.Cuts.{uncut}
use Rattle.program_reader.specs.Texts.{IsAcceptedText, IsTextRefusal}
use Rattle.program_reader.specs.declared.refusal.ProgramRefusal.{ProgramRefusal}
use Rattle.route_report.specs.declared.faults.Side.{Side}
use Rattle.route_report.specs.declared.faults.Side.TheVariants as side
use Rattle.trace_model.specs.Proves.{Claim, Proves, StopsAt}
use Rattle.std.proofs.lemmas.Grind.{common_steps}
use Rattle.std.specs.Prelude.{Bool, true, false, cond, codes, drop, nat_eq, suc, ◌+◌, ◌∷◌}
use Rattle.trace_text.specs.Texts.{begins, begun, ended, lines_of, trace_of, traced}
use Rattle.qroute_top.specs.Stops.{IsReadAs, IsClaimStop, IsTextStop, IsTraceStop, IsUnreadText, unloaded_text}
use Rattle.circuit_target.specs.Standing.{claim_of}
use Rattle.qroute_top.specs.Causes.{IsClaimCause, claim_status}
use Rattle.qroute_top.specs.Claims.{Absent, AreContents, Bad, Ending, Found, Good, IsBehind, IsCompared, IsEnding, IsJudged, IsTextRefused, IsVerified, Missing, Proved, Refused, Finds, Stopped, ending_status, limit_of}
use Rattle.qroute_top.specs.declared.stops.ClaimStop.{ClaimStop}
use Rattle.qroute_top.specs.declared.stops.ClaimStop.TheVariants as claim
use Rattle.qroute_top.specs.declared.stops.Stop.{Stop}
use Rattle.qroute_top.specs.declared.stops.Stop.TheVariants as stop

-- ---- a text that isn't had as a program
pub IsTextStop-text : (s : Side) (content : Option (Option (List ℕ))) (before after : ℕ) (f : TextFault) (x : Stop)
    → IsTextCause content (limit_of s) before after f → x ≡ unloaded_text s f → IsTextStop s content before after x
IsTextStop-text s content before after text_fault.Failed x c is = rw is c
IsTextStop-text s content before after text_fault.Absent x c is = rw is c
IsTextStop-text s content before after text_fault.TooLong x (text, tells, long) is = rw is (refl, (text, tells, inl (refl, long)))
IsTextStop-text s content before after text_fault.NoMemory x c is = rw is tt

pub IsTextStop-read : (s : Side) (content : Option (Option (List ℕ))) (before after : ℕ) (text : List ℕ) (x : Stop) → TellsText content text
    → IsUnreadText s text x → IsTextStop s content before after x
IsTextStop-read s content before after text stop.NoMemory t u = tt
IsTextStop-read s content before after text stop.Words t u = absurd u
IsTextStop-read s content before after text stop.Input t u = absurd u
IsTextStop-read s content before after text (stop.Program r) t u = absurd u
IsTextStop-read s content before after text stop.Shelf t u = absurd u
IsTextStop-read s content before after text stop.Absent t u = absurd u
IsTextStop-read s content before after text (stop.Device r) t u = absurd u
IsTextStop-read s content before after text (stop.Question r) t u = absurd u
IsTextStop-read s content before after text (stop.Claim claim.Failed) t u = absurd u
IsTextStop-read s content before after text (stop.Claim claim.Absent) t u = absurd u
IsTextStop-read s content before after text (stop.Claim (claim.Refused v r)) t u = (u.0, (text, t, u.1))
IsTextStop-read s content before after text (stop.Claim (claim.Trace line)) t u = absurd u

-- ---- a claim that isn't proved
abbrev pub Content : Type 0
Content = List ℕ → Option (Option (List ℕ))

abbrev pub Calm : Stop → ℕ → ℕ → Type 0
Calm x before after = (x ≡ stop.Claim claim.Failed → ⊥) → after ≡ before

pub ok_is_no_err : {T : Type 0} (x : T) (s : Stop) → Ok x ≡ Err s → ⊥
ok_is_no_err x s e = cc

-- a text that is loaded later, while the shelf kept its texts and didn't fail before
pub stop_after : (s : Side) (content other : Option (Option (List ℕ))) (before middle after : ℕ) (x : Stop) → other ≡ content → middle ≡ before
    → IsTextStop s other middle after x → IsTextStop s content before after x
stop_after s content other before middle after x same steady h =
    subst (λ m. IsTextStop s content m after x) steady (subst (λ o. IsTextStop s o middle after x) same h)

pub failed_same : {T : Type 0} (r : Result T Stop) (s t : Stop) → r ≡ Err s → r ≡ Err t → s ≡ t
failed_same r s t e f = cc

pub IsClaimStop-source : (content : Content) (a b : List ℕ) (before after : ℕ) (x : Stop) → IsTextStop side.Source (content a) before after x
    → Calm x before after → IsClaimStop content a b before after x
IsClaimStop-source content a b before after stop.NoMemory t calm = tt
IsClaimStop-source content a b before after stop.Words t calm = absurd t
IsClaimStop-source content a b before after stop.Input t calm = absurd t
IsClaimStop-source content a b before after (stop.Program r) t calm = absurd t
IsClaimStop-source content a b before after stop.Shelf t calm = absurd t
IsClaimStop-source content a b before after stop.Absent t calm = absurd t
IsClaimStop-source content a b before after (stop.Device r) t calm = absurd t
IsClaimStop-source content a b before after (stop.Question r) t calm = absurd t
IsClaimStop-source content a b before after (stop.Claim claim.Failed) t calm = t
IsClaimStop-source content a b before after (stop.Claim claim.Absent) t calm = ((Missing, t, refl), calm (λ e. cc))
IsClaimStop-source content a b before after (stop.Claim (claim.Refused s r)) t calm = ((Bad r, t.1, ap (λ y. Refused y r) t.0), calm (λ e. cc))
IsClaimStop-source content a b before after (stop.Claim (claim.Trace line)) t calm = absurd t

pub IsClaimStop-target : (content : Content) (a b text : List ℕ) (p : Program) (before after : ℕ) (x : Stop) → Finds (content a) side.Source (Good text p)
    → IsTextStop side.Target (content b) before after x → Calm x before after → IsClaimStop content a b before after x
IsClaimStop-target content a b text p before after stop.NoMemory told t calm = tt
IsClaimStop-target content a b text p before after stop.Words told t calm = absurd t
IsClaimStop-target content a b text p before after stop.Input told t calm = absurd t
IsClaimStop-target content a b text p before after (stop.Program r) told t calm = absurd t
IsClaimStop-target content a b text p before after stop.Shelf told t calm = absurd t
IsClaimStop-target content a b text p before after stop.Absent told t calm = absurd t
IsClaimStop-target content a b text p before after (stop.Device r) told t calm = absurd t
IsClaimStop-target content a b text p before after (stop.Question r) told t calm = absurd t
IsClaimStop-target content a b text p before after (stop.Claim claim.Failed) told t calm = t
IsClaimStop-target content a b text p before after (stop.Claim claim.Absent) told t calm = ((Good text p, told, (Missing, t, refl)), calm (λ e. cc))
IsClaimStop-target content a b text p before after (stop.Claim (claim.Refused s r)) told t calm =
    ((Good text p, told, (Bad r, t.1, ap (λ y. Refused y r) t.0)), calm (λ e. cc))
IsClaimStop-target content a b text p before after (stop.Claim (claim.Trace line)) told t calm = absurd t

pub IsClaimStop-trace : (content : Content) (a b text other : List ℕ) (p q : Program) (before after : ℕ) (x : Stop) → Finds (content a) side.Source (Good text p)
    → Finds (content b) side.Target (Good other q) → IsTraceStop (claim_of p q) (trace_of other) x → after ≡ before → IsClaimStop content a b before after x
IsClaimStop-trace content a b text other p q before after stop.NoMemory told too t calm = tt
IsClaimStop-trace content a b text other p q before after stop.Words told too t calm = absurd t
IsClaimStop-trace content a b text other p q before after stop.Input told too t calm = absurd t
IsClaimStop-trace content a b text other p q before after (stop.Program r) told too t calm = absurd t
IsClaimStop-trace content a b text other p q before after stop.Shelf told too t calm = absurd t
IsClaimStop-trace content a b text other p q before after stop.Absent told too t calm = absurd t
IsClaimStop-trace content a b text other p q before after (stop.Device r) told too t calm = absurd t
IsClaimStop-trace content a b text other p q before after (stop.Question r) told too t calm = absurd t
IsClaimStop-trace content a b text other p q before after (stop.Claim claim.Failed) told too t calm = absurd t
IsClaimStop-trace content a b text other p q before after (stop.Claim claim.Absent) told too t calm = absurd t
IsClaimStop-trace content a b text other p q before after (stop.Claim (claim.Refused s r)) told too t calm = absurd t
IsClaimStop-trace content a b text other p q before after (stop.Claim (claim.Trace line)) told too t calm = ((Good text p, told, (Good other q, too, t)), calm)

pub ruleset texts = (IsTextStop-text, IsTextStop-read)

-- ---- a trace is no longer than its text
broken-length : (b m : ℕ) (ls : List (List ℕ)) (c : Bool) → length (ended ls) ≤ m + 1 → length (ended (cond c ([] ∷ ls) (begun b ls))) ≤ suc m + 1
broken-length b m ls true h = omega (arith, h)
broken-length b m [] false h = omega (arith, h)
broken-length b m (l ∷ ls) false h = omega (arith, h)

lines-length : (t : List ℕ) → length (ended (lines_of t)) ≤ length t + 1
lines-length [] = omega arith
lines-length (b ∷ t) = broken-length b (length t) (lines_of t) (nat_eq b 10) (lines-length t)

drop-length : (n : ℕ) (l : List ℕ) → length (drop n l) ≤ length l
drop-length n l = grind (arith, common_steps)

taken-length : (l : List ℕ) (ls ms : List (List ℕ)) (c : Bool) → length (ended ms) ≤ length (ended ls)
    → length (ended (cond c (drop 3 l ∷ ms) ms)) ≤ length (ended (l ∷ ls))
taken-length l ls ms true h = let less = drop-length 3 l in grind (arith, common_steps)
taken-length l ls ms false h = grind (arith, common_steps)

traced-length : (ls : List (List ℕ)) → length (ended (traced ls)) ≤ length (ended ls)
traced-length [] = omega arith
traced-length (l ∷ ls) = taken-length l ls (traced ls) (begins (codes "//!") l) (traced-length ls)

pub trace-short : (t : List ℕ) → length t ≤ 67108864 → length (trace_of t) < 2147483648
trace-short t short =
    let lines = lines-length t in
    let less = traced-length (lines_of t) in
    omega (arith, short, lines, less)

-- ---- programs that are one part
pub claim-kept : (x y p q : Program) → x ≡ kept false p → y ≡ kept false q → claim_of x y ≡ claim_of p q
claim-kept x y p q e f = λ i. claim_of (e i) (f i)

pub IsTraceStop-same : (e f : Claim) (trace : List ℕ) (s : Stop) → e ≡ f → IsTraceStop e trace s → IsTraceStop f trace s
IsTraceStop-same e f trace s same h = subst (λ x. IsTraceStop x trace s) same h

pub one-part : (text : List ℕ) (x : Program) → IsReadAs text x → x.cut ≡ uncut x.ops
one-part text x (p, ok, e) = subst (λ (y : Program). y.cut ≡ uncut y.ops) (sym e) refl

-- ---- one ending
pub record Readable : Type 0 where
  pub accepted : (text : List ℕ) (p : Program) (r : ProgramRefusal) → IsAcceptedText text p → IsTextRefusal text r → ⊥
  pub refused : (text : List ℕ) (r s : ProgramRefusal) → IsTextRefusal text r → IsTextRefusal text s → r ≡ s
  pub means : (text : List ℕ) (p q : Program) → IsWritten text p → IsWritten text q → p ≡ q

pub record Traceable : Type 0 where
  pub not_both : (e : Claim) (trace : List ℕ) (n : ℕ) (p q : List ℕ) (j : ℕ) → StopsAt e trace n → Proves e trace p q j → ⊥
  pub one_line : (e : Claim) (trace : List ℕ) (m n : ℕ) → StopsAt e trace m → StopsAt e trace n → m ≡ n
  pub one_proof : (e : Claim) (trace p q r s : List ℕ) (j k : ℕ) → Proves e trace p q j → Proves e trace r s k → (p ≡ r) × ((q ≡ s) × (j ≡ k))

written_of : (text : List ℕ) (p : Program) → IsAcceptedText text p → IsWritten text p
written_of text p a = (a.tree, a.source, a.means)

refused_same : Readable → (s : Side) (text : List ℕ) (r q : ProgramRefusal) → IsTextRefused s text r → IsTextRefused s text q → r ≡ q
refused_same law s text r q (inl x) (inl y) = x.0 ∙ sym y.0
refused_same law s text r q (inl x) (inr y) = absurd (omega (arith, x.1, y.0))
refused_same law s text r q (inr x) (inl y) = absurd (omega (arith, x.0, y.1))
refused_same law s text r q (inr x) (inr y) = law.refused text r q x.1 y.1

refused_or_good : Readable → (s : Side) (text : List ℕ) (r : ProgramRefusal) (p : Program) → IsTextRefused s text r → length text ≤ limit_of s → IsAcceptedText text p → ⊥
refused_or_good law s text r p (inl x) short ok = omega (arith, x.1, short)
refused_or_good law s text r p (inr x) short ok = law.accepted text p r ok x.1

same_text : (u : Option (List ℕ)) (t v : List ℕ) → u ≡ Some t → u ≡ Some v → t ≡ v
same_text u t v e f = cc

same_found : Readable → (u : Option (List ℕ)) (s : Side) (x y : Found) → Finds (Some u) s x → Finds (Some u) s y → x ≡ y
same_found law u s Missing Missing a b = refl
same_found law u s Missing (Bad r) a (t, told, is) = cc
same_found law u s Missing (Good t p) a (told, short, ok) = cc
same_found law u s (Bad r) Missing (t, told, is) b = cc
same_found law u s (Bad r) (Bad q) (t, told, is) (v, too, es) =
    let same : t ≡ v = same_text u t v told too in
    let here : IsTextRefused s v r = subst (λ w. IsTextRefused s w r) same is in
    ap (λ w. Bad w) (refused_same law s v r q here es)
same_found law u s (Bad r) (Good v p) (t, told, is) (too, short, ok) =
    let same : t ≡ v = same_text u t v told too in
    absurd (refused_or_good law s v r p (subst (λ w. IsTextRefused s w r) same is) short ok)
same_found law u s (Good v p) Missing (told, short, ok) b = cc
same_found law u s (Good v p) (Bad r) (too, short, ok) (t, told, is) =
    let same : t ≡ v = same_text u t v told too in
    absurd (refused_or_good law s v r p (subst (λ w. IsTextRefused s w r) same is) short ok)
same_found law u s (Good t p) (Good v q) (told, short, ok) (too, few, good) =
    let same : t ≡ v = same_text u t v told too in
    let here : IsAcceptedText v p = subst (λ w. IsAcceptedText w p) same ok in
    let one : p ≡ q = law.means v p q (written_of v p here) (written_of v q good) in
    ap (λ w. Good w p) same ∙ ap (λ w. Good v w) one

same_judged : Traceable → (e : Claim) (trace : List ℕ) (x y : Ending) → IsJudged e trace x → IsJudged e trace y → x ≡ y
same_judged law e trace Absent y a b = absurd a
same_judged law e trace (Refused s r) y a b = absurd a
same_judged law e trace (Stopped m) Absent a b = absurd b
same_judged law e trace (Stopped m) (Refused s r) a b = absurd b
same_judged law e trace (Stopped m) (Stopped n) a b = ap (λ w. Stopped w) (law.one_line e trace m n a b)
same_judged law e trace (Stopped m) (Proved p q j) a b = absurd (law.not_both e trace m p q j a b)
same_judged law e trace (Proved p q j) Absent a b = absurd b
same_judged law e trace (Proved p q j) (Refused s r) a b = absurd b
same_judged law e trace (Proved p q j) (Stopped n) a b = absurd (law.not_both e trace n p q j b a)
same_judged law e trace (Proved p q j) (Proved r s k) a b =
    let same = law.one_proof e trace p q r s j k a b in
    ap (λ w. Proved w q j) same.0 ∙ (ap (λ w. Proved r w j) same.1.0 ∙ ap (λ w. Proved r s w) same.1.1)

same_compared : Traceable → (p : Program) (f : Found) (x y : Ending) → IsCompared p f x → IsCompared p f y → x ≡ y
same_compared law p Missing x y a b = a ∙ sym b
same_compared law p (Bad r) x y a b = a ∙ sym b
same_compared law p (Good text q) x y a b = same_judged law (claim_of p q) (trace_of text) x y a b

told_as : Readable → (content : Option (Option (List ℕ))) (u : Option (List ℕ)) (s : Side) (x y : Found) → content ≡ Some u → Finds content s x
    → Finds content s y → x ≡ y
told_as law content u s x y told a b = same_found law u s x y (subst (λ c. Finds c s x) told a) (subst (λ c. Finds c s y) told b)

same_behind : Readable → Traceable → (content : Content) (a b : List ℕ) (f : Found) (x y : Ending) → AreContents content a b → Finds (content a) side.Source f
    → IsBehind (content b) f x → IsBehind (content b) f y → x ≡ y
same_behind law traces content a b Missing x y told says c d = c ∙ sym d
same_behind law traces content a b (Bad r) x y told says c d = c ∙ sym d
same_behind law traces content a b (Good text p) x y told says (f, found, c) (g, too, d) =
    let other = told.second text p says in
    let same : f ≡ g = told_as law (content b) other.0 side.Target f g other.1 found too in
    same_compared traces p g x y (subst (λ w. IsCompared p w x) same c) d

pub same_ending : Readable → Traceable → (content : Content) (a b : List ℕ) (x y : Ending) → AreContents content a b → IsEnding content a b x
    → IsEnding content a b y → x ≡ y
same_ending law traces content a b x y told (f, found, c) (g, too, d) =
    let same : f ≡ g = told_as law (content a) told.first side.Source f g told.first_told found too in
    same_behind law traces content a b g x y told too (subst (λ w. IsBehind (content b) w x) same c) d

-- ---- how it ended
pub ended-claim : (content : Content) (a b : List ℕ) (before after : ℕ) (x : ClaimStop) → IsClaimCause content a b before after x → (Rose before after → ⊥)
    → (y : Ending) × IsEnding content a b y × (claim_status x ≡ ending_status y)
ended-claim content a b before after claim.Failed c calm = absurd (calm c)
ended-claim content a b before after claim.Absent c calm = (Absent, c.0, refl)
ended-claim content a b before after (claim.Refused s r) c calm = (Refused s r, c.0, refl)
ended-claim content a b before after (claim.Trace line) c calm = (Stopped line, c.0, refl)

pub ended-verified : (content : Content) (a b text : List ℕ) (v : IsVerified content a b text) → IsEnding content a b (Proved v.first v.last v.phase)
ended-verified content a b text v = (Good v.source_text v.source, v.source_told, (Good v.target_text v.target, v.target_told, v.proves))

-- ---- texts that are there, and aren't refused
no_text_here : (o : Option (Option (List ℕ))) (t : List ℕ) → o ≡ Some (Some t) → HasNoText o → ⊥
no_text_here None t e h = cc
no_text_here (Some x) t e h = cc

this_text : (o : Option (Option (List ℕ))) (t v : List ℕ) → o ≡ Some (Some t) → TellsText o v → v ≡ t
this_text None t v e h = cc
this_text (Some x) t v e h = cc

abbrev pub Unrefused : Side → List ℕ → Type 0
Unrefused s text = (r : ProgramRefusal) → IsTextRefused s text r → ⊥

-- of a text that is there and isn't refused nothing else is found
good_alone : (s : Side) (o : Option (Option (List ℕ))) (t : List ℕ) (f : Found) → o ≡ Some (Some t) → Unrefused s t → Finds o s f
    → (f ≡ Missing → ⊥) × ((r : ProgramRefusal) → f ≡ Bad r → ⊥)
good_alone s o t Missing told fine h = absurd (no_text_here o t told h)
good_alone s o t (Bad r) told fine (text, tells, is) =
    absurd (fine r (subst (λ w. IsTextRefused s w r) (this_text o t text told tells) is))
good_alone s o t (Good text p) told fine h = ((λ e. cc), (λ r e. cc))

judged_status : (e : Claim) (trace : List ℕ) (x : Ending) → IsJudged e trace x → (ending_status x ≡ 0) ⊎ (ending_status x ≡ 1)
judged_status e trace Absent h = absurd h
judged_status e trace (Refused s r) h = absurd h
judged_status e trace (Stopped line) h = inr refl
judged_status e trace (Proved p q j) h = inl refl

compared_status : (o : Option (Option (List ℕ))) (t : List ℕ) (p : Program) (f : Found) (x : Ending) → o ≡ Some (Some t) → Unrefused side.Target t
    → Finds o side.Target f → IsCompared p f x → (ending_status x ≡ 0) ⊎ (ending_status x ≡ 1)
compared_status o t p Missing x told fine says c = absurd ((good_alone side.Target o t Missing told fine says).0 refl)
compared_status o t p (Bad r) x told fine says c = absurd ((good_alone side.Target o t (Bad r) told fine says).1 r refl)
compared_status o t p (Good text q) x told fine says c = judged_status (claim_of p q) (trace_of text) x c

behind_status : (o u : Option (Option (List ℕ))) (s t : List ℕ) (f : Found) (x : Ending) → o ≡ Some (Some s) → Unrefused side.Source s
    → u ≡ Some (Some t) → Unrefused side.Target t → Finds o side.Source f → IsBehind u f x → (ending_status x ≡ 0) ⊎ (ending_status x ≡ 1)
behind_status o u s t Missing x told fine here well says c = absurd ((good_alone side.Source o s Missing told fine says).0 refl)
behind_status o u s t (Bad r) x told fine here well says c = absurd ((good_alone side.Source o s (Bad r) told fine says).1 r refl)
behind_status o u s t (Good text p) x told fine here well says (f, found, c) = compared_status u t p f x here well found c

pub ending-unrefused : (content : Content) (a b s t : List ℕ) (x : Ending) → content a ≡ Some (Some s) → Unrefused side.Source s
    → content b ≡ Some (Some t) → Unrefused side.Target t → IsEnding content a b x → (ending_status x ≡ 0) ⊎ (ending_status x ≡ 1)
ending-unrefused content a b s t x told fine here well (f, says, c) = behind_status (content a) (content b) s t f x told fine here well says c
