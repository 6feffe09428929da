-- Working form. Telling the events of a run, where they are asked for.
--   HasEmitted g o xs p ys     gate g was emitted: it went from the gates that are left, o, which leaves p, and its event came to
--                              those told, xs, which gives ys; nothing where no gates are known
--   HasSwapped a b o xs p ys   qubits a and b were swapped
--   left_if b gs, told_if b es     the gates and the events that a teller has, where it tells (b) and where not
--   IsTelling b gs es t        teller t knows that the gates gs are left, and told the events es
--   HasToldStep                a step of the machine, what it writes and what is told of it
--   IsToldRun                  the machine underway, and what was told
use Rattle.std.specs.Prelude.{◌≡◌, ℕ, Bool, cond, List, [], ◌∷◌, ◌++◌, Option, None, Some, map, remove}
use Rattle.circuit_list.specs.declared.Gate.{Gate}
use Rattle.coupling_map.specs.Coupling.{Coupling}
use Rattle.sabre_route.specs.declared.emission.Written.{Written}
use Rattle.sabre_route.specs.declared.events.Event.{Event as Told}
use Rattle.sabre_route.specs.declared.events.Event.TheVariants.{Emit as ToldEmit, Swap as ToldSwap}
use Rattle.sabre_route.specs.declared.events.Teller.{Teller}
use Rattle.sabre_route.specs.Left.{IsFirstGate}
use Rattle.sabre_route.specs.Machine.{Event, State}
use Rattle.sabre_route.specs.Ahead.{Ahead}
use Rattle.sabre_route.specs.Telling.{told}
use Rattle.sabre_route.specs.Underway.{HasStepped, IsUnderway}

abbrev pub HasEmitted : Gate → Option (List Gate) → List Told → Option (List Gate) → List Told → Type 0
HasEmitted g None xs p ys = (p ≡ None) × (ys ≡ xs)
HasEmitted g (Some gs) xs p ys = (j : ℕ) × IsFirstGate gs j g × (p ≡ Some (remove gs j)) × (ys ≡ xs ++ ToldEmit j ∷ [])

abbrev pub HasSwapped : ℕ → ℕ → Option (List Gate) → List Told → Option (List Gate) → List Told → Type 0
HasSwapped a b None xs p ys = (p ≡ None) × (ys ≡ xs)
HasSwapped a b (Some gs) xs p ys = (p ≡ Some gs) × (ys ≡ xs ++ ToldSwap a b ∷ [])

abbrev pub left_if : Bool → List Gate → Option (List Gate)
left_if b gs = cond b (Some gs) None

abbrev pub told_if : Bool → List Event → List Told
told_if b es = cond b (map told es) []

pub record IsTelling (b : Bool) (gs : List Gate) (es : List Event) (t : Teller) : Type 0 where
  pub left : t.left ≡ left_if b gs
  pub events : t.events.items ≡ told_if b es

pub record HasToldStep (ahead : Ahead) (d : Coupling) (s : State) (old : Written) (t : Teller) (u : State) (new : Written) (v : Teller) : Type 0 where
  pub stepped : HasStepped ahead d s old u new
  pub tells : (b : Bool) (es : List Event) → IsTelling b s.rest es t → IsTelling b u.rest (es ++ stepped.event ∷ []) v

pub record IsToldRun (ahead : Ahead) (b : Bool) (d : Coupling) (gs : List Gate) (given : List ℕ) (s : State) (w : Written) (t : Teller) : Type 0 where
  pub underway : IsUnderway ahead d gs given s w
  pub telling : IsTelling b s.rest underway.events t
