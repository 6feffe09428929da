-- Gates met along dependences, breadth first. They go by their places, in program order.
--   WaitsFor gs b a           the gate at place b waits for the one at place a, which is earlier and on one of its wires
--   IsUnbound gs m b          .. is one of the first m, and waits for none
--   release_at met k          number k of those met: the time of its release, and its place
--   IsMetAt met k a           number k of those met is at place a
--   IsReleasedAt waits unbound met t b      it is released at time t: at 0 if it is unbound; else, once all that it waits for are met,
--                             one after the number of the last of them
--   IsBefore p q              (time, place) p is before q
--   behind met                those met that weren't released at 0
--   AreMet most waits unbound met     those that are released, in order: all, or the first of them, so many that `most` are behind
--   IsAlong most gs m es      es is the pairs of wires of those behind
use Rattle.std.specs.Prelude.{◌≡◌, ℕ, zero, suc, ◌<◌, ◌≤◌, ◌⊎◌, List, IsTrue, Some, filter, length, map, nat_lt, slice_get, slice_index_or}
use Rattle.circuit_list.specs.declared.Gate.{Gate}
use Rattle.sabre_route.specs.Search.{pairs_at, shares}

pub record WaitsFor (gs : List Gate) (b a : ℕ) : Type 0 where
  pub earlier : a < b
  pub one : Gate
  pub there : slice_get gs a ≡ Some one
  pub other : Gate
  pub here : slice_get gs b ≡ Some other
  pub shared : IsTrue (shares one other)

abbrev pub IsUnbound : List Gate → ℕ → ℕ → Type 0
IsUnbound gs m b = (b < m) × ((a : ℕ) → WaitsFor gs b a → ⊥)

abbrev pub release_at : List (ℕ × ℕ) → ℕ → ℕ × ℕ
release_at met k = slice_index_or met k (0, 0)

abbrev pub IsMetAt : List (ℕ × ℕ) → ℕ → ℕ → Type 0
IsMetAt met k a = (k < length met) × ((release_at met k).1 ≡ a)

abbrev pub IsReleasedAt : (ℕ → ℕ → Type 0) → (ℕ → Type 0) → List (ℕ × ℕ) → ℕ → ℕ → Type 0
IsReleasedAt waits unbound met zero b = unbound b
IsReleasedAt waits unbound met (suc k) b = ((a : ℕ) × waits b a × IsMetAt met k a)
    × ((a : ℕ) → waits b a → (i : ℕ) × (i ≤ k) × IsMetAt met i a)

abbrev pub IsBefore : ℕ × ℕ → ℕ × ℕ → Type 0
IsBefore p q = (p.0 < q.0) ⊎ ((p.0 ≡ q.0) × (p.1 < q.1))

abbrev pub behind : List (ℕ × ℕ) → List (ℕ × ℕ)
behind met = filter (λ p. nat_lt 0 p.0) met

pub record AreMet (most : ℕ) (waits : ℕ → ℕ → Type 0) (unbound : ℕ → Type 0) (met : List (ℕ × ℕ)) : Type 0 where
  pub ordered : (i j : ℕ) → i < j → j < length met → IsBefore (release_at met i) (release_at met j)
  pub released : (i : ℕ) → i < length met → IsReleasedAt waits unbound met (release_at met i).0 (release_at met i).1
  pub others : (t b : ℕ) → IsReleasedAt waits unbound met t b → ((i : ℕ) × (i < length met) × (release_at met i ≡ (t, b)))
      ⊎ ((most ≤ length (behind met)) × ((i : ℕ) → i < length met → IsBefore (release_at met i) (t, b)))
  pub few : length (behind met) ≤ most

abbrev pub IsAlong : ℕ → List Gate → ℕ → List (ℕ × ℕ) → Type 0
IsAlong most gs m es = (met : List (ℕ × ℕ)) × AreMet most (WaitsFor gs) (IsUnbound gs m) met × (es ≡ pairs_at gs (map (λ p. p.1) (behind met)))
