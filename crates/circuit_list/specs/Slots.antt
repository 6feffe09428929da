-- Slots: the names of a circuit's gates, in the order of its list.
--   place_of s slots    the place of slot s among the slots, and their number where it isn't there
--   IsLive b s          slot s is that of a gate of b
--   Ascend slots        each slot is below the later ones, so all are different
--   is_on_some w o      whether o is a gate, and on wire w
--   is_on_at w gs i     whether a gate stands at place i, and is on wire w
--   IsNextOn w gs i j   the next gate on wire w behind place i stands at place j
--   IsPrevOn w gs i j   the last gate on wire w before place i stands at place j
--   NoneBehind w gs i, NoneBefore w gs i    there is none
--   IsFirstFrom b s t   the first slot of a gate of b that isn't before slot s is t
--   NoneFrom b s        all slots of gates of b are before slot s
use Rattle.std.specs.Prelude.{◌≡◌, ℕ, suc, ◌<◌, ◌≤◌, ◌==◌, Bool, true, false, cond, List, [], ◌∷◌, length, Option, None, Some, slice_get}
use Rattle.circuit_list.specs.Body.{Body}
use Rattle.circuit_list.specs.declared.Gate.{Gate}
use Rattle.circuit_list.specs.Gates.{is_on}

abbrev pub place_of : ℕ → List ℕ → ℕ
place_of s [] = 0
place_of s (t ∷ slots) = cond (s == t) 0 (suc (place_of s slots))

abbrev pub IsLive : Body → ℕ → Type 0
IsLive b s = place_of s b.slots < length b.gates

abbrev pub Ascend : List ℕ → Type 0
Ascend slots = (i j s t : ℕ) → i < j → slice_get slots i ≡ Some s → slice_get slots j ≡ Some t → s < t

abbrev pub is_on_some : ℕ → Option Gate → Bool
is_on_some w None = false
is_on_some w (Some g) = is_on w g

abbrev pub is_on_at : ℕ → List Gate → ℕ → Bool
is_on_at w gs i = is_on_some w (slice_get gs i)

pub record IsNextOn (w : ℕ) (gs : List Gate) (i j : ℕ) : Type 0 where
  pub behind : i < j
  pub on : is_on_at w gs j ≡ true
  pub none : (k : ℕ) → i < k → k < j → is_on_at w gs k ≡ false

pub record IsPrevOn (w : ℕ) (gs : List Gate) (i j : ℕ) : Type 0 where
  pub before : j < i
  pub on : is_on_at w gs j ≡ true
  pub none : (k : ℕ) → j < k → k < i → is_on_at w gs k ≡ false

abbrev pub NoneBehind : ℕ → List Gate → ℕ → Type 0
NoneBehind w gs i = (k : ℕ) → i < k → is_on_at w gs k ≡ false

abbrev pub NoneBefore : ℕ → List Gate → ℕ → Type 0
NoneBefore w gs i = (k : ℕ) → k < i → is_on_at w gs k ≡ false

pub record IsFirstFrom (b : Body) (s t : ℕ) : Type 0 where
  pub live : IsLive b t
  pub from : s ≤ t
  pub first : (u : ℕ) → IsLive b u → s ≤ u → t ≤ u

abbrev pub NoneFrom : Body → ℕ → Type 0
NoneFrom b s = (u : ℕ) → IsLive b u → u < s
