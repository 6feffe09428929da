-- Placements: where each of `size` wires stands, as a list.
--     position_of j p     the first place of j in p
--     IsPlacement size p  p is a permutation of 0 to size-1
--     identity n          the list 0, 1, .. n-1
--     moved size p x      the bits x, bit i at place p(i)
--     composed p q        each wire from its place by p on by q
--     exchanged a b j     the place that j becomes when a and b are exchanged
use Rattle.std.specs.Prelude.{◌≡◌, ℕ, suc, ◌<◌, ◌==◌, Bool, cond, if◌then◌else◌, List, [], ◌∷◌, length, map, nat_eq, slice_index}
use Rattle.std.specs.List.{range_with_len}
use Rattle.unitary_model.specs.Amplitude.{bit_of}

abbrev pub position_of : ℕ → List ℕ → ℕ
position_of j [] = 0
position_of j (i ∷ p) = cond (nat_eq i j) 0 (suc (position_of j p))

pub record IsPlacement (size : ℕ) (p : List ℕ) : Type 0 where
  pub long : length p ≡ size
  -- each wire has a place, and no other wire has the same
  pub within : (i : ℕ) → i < size → slice_index p i < size
  pub once : (i : ℕ) → i < size → position_of (slice_index p i) p ≡ i
  -- each place has a wire
  pub each : (j : ℕ) → j < size → position_of j p < size
  pub there : (j : ℕ) → j < size → slice_index p (position_of j p) ≡ j

abbrev pub identity : ℕ → List ℕ
identity n = range_with_len 0 n

-- at place j stands the bit of the wire that is there
abbrev pub moved : ℕ → List ℕ → List Bool → List Bool
moved size p x = map (λ j. bit_of x (position_of j p)) (identity size)

-- the place of wire i is q(p(i))
abbrev pub composed : List ℕ → List ℕ → List ℕ
composed p q = map (slice_index q) p

-- a becomes b, b becomes a, and each other place stays
unfoldable pub exchanged : ℕ → ℕ → ℕ → ℕ
exchanged a b j = if j == a then b else (if j == b then a else j)
