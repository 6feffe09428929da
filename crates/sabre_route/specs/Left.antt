-- Working form. The gates that are left in a circuit that is linked, and the first of them on each wire.
--   IsFirstGate gs j g     gate g stands at place j, first on its wires
--   NoneOn w gs p q        none of the gates from place p on and before place q is on wire w
--   IsFirstOn p w b s      s is the slot of the first gate on wire w from place p on
--   IsHead p w b h         h is that slot, if there is one
--   AreHeadsFrom p b hs    .. for each wire
--   IsWithout b i u        circuit u is circuit b without the gate at place i
--   IsTaken g o p r        from the list o, if there is one, gate g was taken, which left p and stood at place r
use Rattle.std.specs.Prelude.{◌≡◌, ℕ, ◌+◌, ◌<◌, ◌≤◌, List, IsTrue, Option, None, Some, false, length, remove, slice_get, slice_index_or, take, true}
use Rattle.circuit_list.specs.Body.{Body}
use Rattle.circuit_list.specs.declared.Gate.{Gate}
use Rattle.circuit_list.specs.Slots.{IsLive, is_on_at, place_of}
use Rattle.sabre_route.specs.Search.{is_free}

pub record IsFirstGate (gs : List Gate) (j : ℕ) (g : Gate) : Type 0 where
  pub there : slice_get gs j ≡ Some g
  pub first : IsTrue (is_free (take j gs) g)

abbrev pub NoneOn : ℕ → List Gate → ℕ → ℕ → Type 0
NoneOn w gs p q = (k : ℕ) → p ≤ k → k < q → is_on_at w gs k ≡ false

pub record IsFirstOn (p w : ℕ) (b : Body) (s : ℕ) : Type 0 where
  pub live : IsLive b s
  pub from : p ≤ place_of s b.slots
  pub on : is_on_at w b.gates (place_of s b.slots) ≡ true
  pub none : NoneOn w b.gates p (place_of s b.slots)

abbrev pub IsHead : ℕ → ℕ → Body → Option ℕ → Type 0
IsHead p w b None = NoneOn w b.gates p (length b.gates)
IsHead p w b (Some s) = IsFirstOn p w b s

pub record AreHeadsFrom (p : ℕ) (b : Body) (heads : List (Option ℕ)) : Type 0 where
  pub long : length heads ≡ b.wires
  pub each : (w : ℕ) → w < b.wires → IsHead p w b (slice_index_or heads w None)

pub record IsWithout (b : Body) (i : ℕ) (u : Body) : Type 0 where
  pub wires : u.wires ≡ b.wires
  pub gates : u.gates ≡ remove b.gates i
  pub earlier : (t : ℕ) → place_of t b.slots < i → place_of t u.slots ≡ place_of t b.slots
  pub later : (t : ℕ) → i < place_of t b.slots → place_of t u.slots + 1 ≡ place_of t b.slots

abbrev pub IsTaken : Gate → Option (List Gate) → Option (List Gate) → Option ℕ → Type 0
IsTaken g None p r = (p ≡ None) × (r ≡ None)
IsTaken g (Some gs) p r = (j : ℕ) × IsFirstGate gs j g × (p ≡ Some (remove gs j)) × (r ≡ Some j)
