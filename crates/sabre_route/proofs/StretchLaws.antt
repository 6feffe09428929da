-- A stretch of a run in which no CNOT is emitted has at most N + k swaps, where no two qubits are further apart than k.
--   run-sound       what the states of a run keep, at its end
--   run-cut         a run along two lists of events, one after the other
--   slack-most      no state has more slack
--   stretch-less    each swap of the stretch leaves less slack
--   few-between     all of it
use Rattle.std.proofs.Common.{◌≡◌, ℕ, ◌+◌, ◌<◌, ◌≤◌, ◌⊎◌, inl, inr, false, List, [], ◌∷◌, ◌++◌, All, refl, arith, subst}
use Rattle.std.specs.List.{AllByRecursion}
use Rattle.std.proofs.lemmas.Bool.{cases_lt}
use Rattle.std.proofs.lemmas.List.Elements.{recursion_from_All}
use Rattle.circuit_list.specs.declared.Gate.{Gate}
use Rattle.circuit_list.specs.Gates.{IsFine, is_cx}
use Rattle.coupling_map.specs.Coupling.{Coupling}
use Rattle.unitary_model.specs.Placement.{IsPlacement}
use Rattle.sabre_route.specs.Ahead.{Ahead}
use Rattle.sabre_route.specs.Machine.{State, Event, Emit, Swap, start, IsEmission, IsRun, Run}
use Rattle.sabre_route.specs.Routing.{emits_cx, swap_count}
use Rattle.sabre_route.specs.Measures.{IsMeasure}
use Rattle.sabre_route.specs.Scores.{IsMetric}
use Rattle.sabre_route.proofs.BoundLaws.{IsSound, emission-fresh, exchange-less, far-short, single-fresh, slack, slack-high, slack-low, start-sound, step-sound}

-- the state between two parts of a run
pub record IsCut (ahead : Ahead) (d : Coupling) (s u : State) (es fs : List Event) : Type 0 where
  pub middle : State
  pub first : Run ahead d s es middle
  pub second : Run ahead d middle fs u

pub run-cut : (ahead : Ahead) (d : Coupling) (s u : State) (es fs : List Event) → Run ahead d s (es ++ fs) u → IsCut ahead d s u es fs
run-cut ahead d s u [] fs h = record { middle = s; first = refl; second = h }
run-cut ahead d s u (e ∷ es) fs h =
    let cut = run-cut ahead d h.0 u es fs h.2 in
    record { middle = cut.middle; first = (h.0, h.1, cut.first); second = cut.second }

pub run-sound : (ahead : Ahead) (d : Coupling) (s u : State) (es : List Event) → IsMetric d → IsSound d s → Run ahead d s es u → IsSound d u
run-sound ahead d s u [] c h k = subst (IsSound d) k h
run-sound ahead d s u (e ∷ es) c h k = run-sound ahead d k.0 u es c (step-sound ahead d s k.0 e c h k.1) k.2

pub slack-most : (d : Coupling) (steps : ℕ → ℕ → ℕ) (reach : ℕ) (s : State) → IsMeasure d steps reach → IsSound d s → slack d steps reach s ≤ d.size + reach
slack-most d steps reach s f h = go (cases_lt s.stalled d.size)
  where
    go : (s.stalled < d.size) ⊎ (d.size ≤ s.stalled) → slack d steps reach s ≤ d.size + reach
    go (inl lt) = omega (arith, slack-low d steps reach s lt)
    go (inr le) = omega (arith, slack-high d steps reach s le, far-short d steps reach s.placement s.rest f h.spread h.fine)

-- a gate on one wire is emitted only where no swap is counted
single-slack : (d : Coupling) (steps : ℕ → ℕ → ℕ) (reach : ℕ) (s m : State) (j : ℕ) (g : Gate) → IsMetric d → IsSound d s → IsEmission d s j g m → is_cx g ≡ false → slack d steps reach m ≡ slack d steps reach s
single-slack d steps reach s m j g c h k e =
    let before = single-fresh d s j g h k.can e in
    let after = emission-fresh d s m j g h k in
    omega (arith, before, after, slack-low d steps reach s (omega (arith, before, c.graph.positive)), slack-low d steps reach m (omega (arith, after, c.graph.positive)))

pub stretch-less : (ahead : Ahead) (d : Coupling) (steps : ℕ → ℕ → ℕ) (reach : ℕ) (s u : State) (es : List Event) → IsMetric d → IsMeasure d steps reach → IsSound d s → Run ahead d s es u → AllByRecursion (λ e. emits_cx e ≡ false) es
    → swap_count es + slack d steps reach u ≤ slack d steps reach s
stretch-less ahead d steps reach s u [] c f h k none =
    let same = subst (λ x. slack d steps reach x ≤ slack d steps reach s) k (omega arith) in
    omega (arith, same)
stretch-less ahead d steps reach s u (Emit j g ∷ es) c f h k none =
    let more = stretch-less ahead d steps reach k.0 u es c f (step-sound ahead d s k.0 (Emit j g) c h k.1) k.2 none.1 in
    omega (arith, more, single-slack d steps reach s k.0 j g c h k.1 none.0)
stretch-less ahead d steps reach s u (Swap a b ∷ es) c f h k none =
    let more = stretch-less ahead d steps reach k.0 u es c f (step-sound ahead d s k.0 (Swap a b) c h k.1) k.2 none.1 in
    omega (arith, more, exchange-less ahead d steps reach s k.0 a b c f h k.1)

pub few-between : (ahead : Ahead) (d : Coupling) (q : List ℕ) (gs : List Gate) (before stretch after : List Event) (u : State) (steps : ℕ → ℕ → ℕ) (reach : ℕ) → IsMetric d → IsMeasure d steps reach → IsPlacement d.size q
    → All (IsFine d.size) gs → IsRun ahead d (start q gs) (before ++ stretch ++ after) u → All (λ e. emits_cx e ≡ false) stretch → swap_count stretch ≤ d.size + reach
few-between ahead d q gs before stretch after u steps reach c f h fine run none =
    let head = (run-cut ahead d (start q gs) u (before ++ stretch) after run.steps).first in
    let cut = run-cut ahead d (start q gs) (run-cut ahead d (start q gs) u (before ++ stretch) after run.steps).middle before stretch head in
    let sound = run-sound ahead d (start q gs) cut.middle before c (start-sound d q gs h fine) cut.first in
    let less = stretch-less ahead d steps reach cut.middle (run-cut ahead d (start q gs) u (before ++ stretch) after run.steps).middle stretch c f sound cut.second (recursion_from_All (λ e. emits_cx e ≡ false) stretch none) in
    omega (arith, less, slack-most d steps reach cut.middle f sound)
