-- Working form.
-- `elide`, as a walk along the wires finds it.
--     IsReverse gs i c t j    a CNOT from t to c stands at j, and is the next gate behind i on both wires
--     ByNext gs i a b j k     a CNOT from a to b stands at i and is first on its wires, the next gate on both is a CNOT from b to a at
--                             j + 1, and the next on both a CNOT from a to b at k + 2
--     ByFirst gs i a b j k    what `IsElide` asks: each is first on its wires of those that are left
--     IsElided i q gs p hs    such three go from the gates gs, which leaves hs, and the wires at q exchange, which puts them at p
use Rattle.std.specs.Prelude.{◌≡◌, ℕ, suc, List, Some, map, remove, slice_get, slice_index}
use Rattle.circuit_list.specs.declared.Gate.{Gate}
use Rattle.circuit_list.specs.declared.Gate.TheVariants.{Cx}
use Rattle.circuit_list.specs.Slots.{IsNextOn}
use Rattle.trace_model.specs.Proves.{IsFirst}
use Rattle.unitary_model.specs.Placement.{exchanged}

pub record IsReverse (gs : List Gate) (i c t j : ℕ) : Type 0 where
  pub there : slice_get gs j ≡ Some (Cx t c)
  pub control : IsNextOn c gs i j
  pub target : IsNextOn t gs i j

pub record ByNext (gs : List Gate) (i a b j k : ℕ) : Type 0 where
  pub first : IsFirst gs i (Cx a b)
  pub second : IsReverse gs i a b (suc j)
  pub third : IsReverse gs (suc j) b a (suc (suc k))

pub record ByFirst (gs : List Gate) (i a b j k : ℕ) : Type 0 where
  pub first : IsFirst gs i (Cx a b)
  pub second : IsFirst (remove gs i) j (Cx b a)
  pub third : IsFirst (remove (remove gs i) j) k (Cx a b)

pub record IsElided (i : ℕ) (q : List ℕ) (gs : List Gate) (p : List ℕ) (hs : List Gate) : Type 0 where
  pub a : ℕ
  pub b : ℕ
  pub j : ℕ
  pub k : ℕ
  pub by : ByFirst gs i a b j k
  pub now : p ≡ map (exchanged (slice_index q a) (slice_index q b)) q
  pub rest : hs ≡ remove (remove (remove gs i) j) k
