-- A lookout over the gates that are left.
--   seen-front        its first CNOTs have the front layer
--   seen-along        the extended set that it gives
--   seen-ordered      .. in program order
--   seen-can, seen-past     a gate that is emitted is passed by it
--   emission-can, emission-seen, exchange-seen     .. as the calls tell it
use Rattle.std.proofs.Common.{◌≡◌, ℕ, ◌<◌, ◌≤◌, Bool, true, false, All, List, ◌++◌, Option, None, Some, length, remove, take, refl, sym, ◌∙◌, ap, subst, arith}
use Rattle.std.specs.Option.{IfSome}
use Rattle.std.proofs.Math.Seq.{take-append_seam}
use Rattle.std.proofs.lemmas.List.{length-append}
use Rattle.std.proofs.lemmas.List.Elements.{All-from_recursion, All-weaker, recursion_from_All}
use Rattle.circuit_list.specs.declared.Gate.{Gate}
use Rattle.circuit_list.specs.Gates.{is_cx, IsFine}
use Rattle.coupling_map.specs.Coupling.{Coupling}
use Rattle.sabre_route.specs.Ahead.{cx_only, Ahead, Along, InOrder, IsBestSwap, IsLookoutOver, Outlook}
use Rattle.sabre_route.specs.Dependences.{IsAlong}
use Rattle.sabre_route.specs.Left.{IsFirstGate}
use Rattle.sabre_route.specs.Looking.{CanPass, IsAheadOn, IsLayer, IsPassedBy, IsPast, IsWrittenSet}
use Rattle.sabre_route.specs.Machine.{State, exchange, IsEmission, IsEmittable}
use Rattle.sabre_route.specs.Scores.{placed, AreWithin, IsBestPair}
use Rattle.sabre_route.specs.Search.{extended, front, most_extended}
use Rattle.sabre_route.proofs.BoundLaws.{emitted-parts, swapped-parts}
use Rattle.sabre_route.proofs.FrontLaws.{extended-few, extended-wires, length-placed, AreWires, IsSurveyed}
use Rattle.sabre_route.proofs.LeftLaws.{first-one}
use Rattle.sabre_route.proofs.OnlyLaws.{front-only, only-append, only-single, only-taken}

only-front_part : (gs following left : List Gate) → left ≡ cx_only (gs ++ following) → take (length (cx_only gs)) left ≡ cx_only gs
only-front_part gs following left e = ap (take (length (cx_only gs))) (e ∙ only-append gs following) ∙ take-append_seam (cx_only gs) (cx_only following)

along-front : (es : List (ℕ × ℕ)) (q : List ℕ) (following : List Gate) (o : Outlook) (n : ℕ) (gs : List Gate) (layer : List (ℕ × ℕ)) → IsLookoutOver (Along following) (Some o) n gs → ((j : ℕ) (g : Gate) → IsEmittable es q gs j g → ⊥)
    → layer ≡ placed q (front gs) → (length (cx_only gs) ≤ length o.left) × (layer ≡ placed q (front (take (length (cx_only gs)) o.left)))
along-front es q following o n gs layer h stuck e = (
  omega (arith, ap length (h.1 ∙ only-append gs following), length-append (cx_only gs) (cx_only following)),
  e ∙ ap (placed q) (front-only es q gs stuck ∙ ap front (sym (only-front_part gs following o.left h.1))),
)

pub seen-front : (es : List (ℕ × ℕ)) (q : List ℕ) (ahead : Ahead) (o : Outlook) (n : ℕ) (gs : List Gate) (layer : List (ℕ × ℕ)) → IsLookoutOver ahead (Some o) n gs → ((j : ℕ) (g : Gate) → IsEmittable es q gs j g → ⊥) → layer ≡ placed q (front gs)
    → IsLayer o q layer
seen-front es q InOrder o n gs layer h stuck e = absurd h
seen-front es q (Along following) o n gs layer h stuck e = let l = along-front es q following o n gs layer h stuck e in record { many = length (cx_only gs); within = l.0; is = l.1 }

pub seen-along : (es : List (ℕ × ℕ)) (q : List ℕ) (ahead : Ahead) (o : Outlook) (n : ℕ) (gs : List Gate) (layer xs : List (ℕ × ℕ)) → IsLookoutOver ahead (Some o) n gs → ((j : ℕ) (g : Gate) → IsEmittable es q gs j g → ⊥) → layer ≡ placed q (front gs)
    → IsWrittenSet o q layer xs → IsAheadOn ahead n q gs xs
seen-along es q InOrder o n gs layer xs h stuck e set = absurd h
seen-along es q (Along following) o n gs layer xs h stuck e set =
    let l = along-front es q following o n gs layer h stuck e in
    let s = set (length (cx_only gs)) l.0 l.1 in
    record {
      set = s.0;
      extended = subst (λ ys. IsAlong most_extended ys (length (cx_only gs)) s.0) h.1 s.1;
      within = All-weaker (λ p. (p.0 < o.wires) × (p.1 < o.wires)) (λ p. (p.0 < n) × (p.1 < n)) (λ p f. (omega (arith, f.0, h.0), omega (arith, f.1, h.0))) s.0 s.2;
      few = s.3;
      placed_at = s.4;
    }

pub seen-can : (ahead : Ahead) (o : Option Outlook) (n : ℕ) (gs : List Gate) (j : ℕ) (g : Gate) → IsLookoutOver ahead o n gs → IsFirstGate gs j g → IfSome o (λ x. CanPass (is_cx g) g x.left)
seen-can ahead None n gs j g h first = tt
seen-can InOrder (Some o) n gs j g h first = absurd h
seen-can (Along following) (Some o) n gs j g h first = go (is_cx g) refl
  where
    go : (b : Bool) → is_cx g ≡ b → CanPass b g o.left
    go false e = tt
    go true e = let t = only-taken gs following j g first e in (t.0, subst (λ (xs : List Gate). IsFirstGate xs t.0 g) (sym h.1) t.1)

pub seen-past : (ahead : Ahead) (o p : Option Outlook) (n : ℕ) (gs : List Gate) (j : ℕ) (g : Gate) → IsLookoutOver ahead o n gs → IsFirstGate gs j g → IsPassedBy g o p → IsLookoutOver ahead p n (remove gs j)
seen-past InOrder None p n gs j g h first past = subst (λ (x : Option Outlook). IsLookoutOver InOrder x n (remove gs j)) (sym past) tt
seen-past InOrder (Some o) p n gs j g h first past = absurd h
seen-past (Along following) None p n gs j g h first past = absurd h
seen-past (Along following) (Some o) p n gs j g h first (new, is, wires, past) =
    subst (λ (x : Option Outlook). IsLookoutOver (Along following) x n (remove gs j)) (sym is) (omega (arith, h.0, wires), go (is_cx g) refl past)
  where
    go : (b : Bool) → is_cx g ≡ b → IsPast b g o.left new.left → new.left ≡ cx_only (remove gs j ++ following)
    go false e same = same ∙ h.1 ∙ only-append gs following ∙ ap (λ xs. xs ++ cx_only following) (sym (only-single gs j g first.there e)) ∙ sym (only-append (remove gs j) following)
    go true e (i, at, taken) =
        let t = only-taken gs following j g first e in
        let k : i ≡ t.0 = first-one (cx_only (gs ++ following)) i t.0 g (subst (λ (xs : List Gate). IsFirstGate xs i g) h.1 at) t.1 in
        taken ∙ (λ z. remove (h.1 z) (k z)) ∙ sym t.2

-- in program order
pub seen-ordered : (ahead : Ahead) (n : ℕ) (q : List ℕ) (gs : List Gate) (xs : List (ℕ × ℕ)) → IsLookoutOver ahead None n gs → All (IsFine n) gs → xs ≡ placed q (extended gs) → IsAheadOn ahead n q gs xs
seen-ordered InOrder n q gs xs h fine e = record {
  set = extended gs;
  extended = refl;
  within = All-from_recursion _ (extended gs) (extended-wires n gs (recursion_from_All (IsFine n) gs fine));
  few = extended-few gs;
  placed_at = e;
}
seen-ordered (Along following) n q gs xs h fine e = absurd h

-- ---- as the calls tell it
pub seen-sized : (ahead : Ahead) (o : Option Outlook) (n m : ℕ) (gs : List Gate) → n ≡ m → IsLookoutOver ahead o n gs → IsLookoutOver ahead o m gs
seen-sized ahead o n m gs e h = subst (λ (k : ℕ). IsLookoutOver ahead o k gs) e h

first-gate : (d : Coupling) (s u : State) (j : ℕ) (g : Gate) → IsEmission d s j g u → IsFirstGate s.rest j g
first-gate d s u j g h = record { there = h.can.there; first = h.can.first }

-- what is asked of a lookout, and what it is afterwards
pub emission-can : (ahead : Ahead) (o : Option Outlook) (d : Coupling) (s u : State) (j : ℕ) (g : Gate) → IsLookoutOver ahead o d.size s.rest → IsEmission d s j g u → IfSome o (λ x. CanPass (is_cx g) g x.left)
emission-can ahead o d s u j g h e = seen-can ahead o d.size s.rest j g h (first-gate d s u j g e)

pub emission-seen : (ahead : Ahead) (o p : Option Outlook) (d : Coupling) (s u : State) (j : ℕ) (g : Gate) → IsLookoutOver ahead o d.size s.rest → IsEmission d s j g u → IsPassedBy g o p → IsLookoutOver ahead p d.size u.rest
emission-seen ahead o p d s u j g h e past =
    subst (λ (xs : List Gate). IsLookoutOver ahead p d.size xs) (sym (emitted-parts s u j g e.after).rest) (seen-past ahead o p d.size s.rest j g h (first-gate d s u j g e) past)

pub exchange-seen : (ahead : Ahead) (o : Option Outlook) (n m : ℕ) (s u : State) (a b : ℕ) → u ≡ exchange m s a b → IsLookoutOver ahead o n s.rest → IsLookoutOver ahead o n u.rest
exchange-seen ahead o n m s u a b e h = subst (λ (xs : List Gate). IsLookoutOver ahead o n xs) (sym (swapped-parts m s u a b e).rest) h

-- ---- the choice
ahead-wires : (ahead : Ahead) (d : Coupling) (n : ℕ) (q : List ℕ) (gs : List Gate) (xs : List (ℕ × ℕ)) → n ≡ d.size → (h : IsAheadOn ahead n q gs xs) → AreWires d.size h.set
ahead-wires ahead d n q gs xs e h = recursion_from_All _ h.set (subst (λ (k : ℕ). AreWithin k h.set) e h.within)

pub ahead-within : (ahead : Ahead) (d : Coupling) (n : ℕ) (q : List ℕ) (gs : List Gate) (xs : List (ℕ × ℕ)) → IsSurveyed d q gs → n ≡ d.size → IsAheadOn ahead n q gs xs → AreWithin d.size xs
ahead-within ahead d n q gs xs s e h = subst (AreWithin d.size) (sym h.placed_at) (s.extended_within h.set (ahead-wires ahead d n q gs xs e h))

pub ahead-few : (ahead : Ahead) (n : ℕ) (q : List ℕ) (gs : List Gate) (xs : List (ℕ × ℕ)) → IsAheadOn ahead n q gs xs → length xs ≤ most_extended
ahead-few ahead n q gs xs h = omega (arith, ap length h.placed_at, length-placed q h.set, h.few)

pub ahead-best : (ahead : Ahead) (d : Coupling) (n : ℕ) (q : List ℕ) (gs : List Gate) (fs xs : List (ℕ × ℕ)) (a b : ℕ) → IsSurveyed d q gs → n ≡ d.size → IsAheadOn ahead n q gs xs → fs ≡ placed q (front gs) → IsBestPair d fs xs a b → IsBestSwap ahead d q gs a b
ahead-best ahead d n q gs fs xs a b s e h is best =
    s.best ahead h.set a b (ahead-wires ahead d n q gs xs e h) h.extended
    (subst (λ (es : List (ℕ × ℕ)). IsBestPair d (placed q (front gs)) es a b) h.placed_at (subst (λ (ys : List (ℕ × ℕ)). IsBestPair d ys xs a b) is best))
