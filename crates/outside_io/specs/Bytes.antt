-- Bytes that a source has left and a sink holds, where they are told.
--   TakesAll old new bytes         all that the source had left came
--   IsLongerThan left max          more bytes than the limit were left
--   TakesOneMore old new max       one byte more than the limit came, and no other
--   Tells told bytes               these bytes are what is told, if anything is
--   Gains old new bytes            what a sink holds grew by these bytes
--   GainsPrefix old new bytes      what a sink holds grew by some first bytes of these
--   Stays old new                  what a sink holds stays
--   GainsUnlessFault ..            all came, or a prefix came and the count of faults rose
use Rattle.std.specs.Prelude.{◌≡◌, ◌⊎◌, ℕ, ◌+◌, ◌<◌, ◌≤◌, List, ◌++◌, Option, Some, None, ⊤, length, take}
use Rattle.std.specs.Io.KnownBytes.{Consumes, IsAtEnd}
use Rattle.outside_io.specs.Causes.{Rose}

-- all that the source had left came, and these are the bytes
abbrev pub TakesAll : Option (List ℕ) → Option (List ℕ) → List ℕ → Type 0
TakesAll old new bytes = Consumes old new bytes × IsAtEnd new

-- more bytes than the limit were left
abbrev pub IsLongerThan : Option (List ℕ) → ℕ → Type 0
IsLongerThan None max = ⊤
IsLongerThan (Some bytes) max = max < length bytes

-- one byte more than the limit came
abbrev pub TakesOneMore : Option (List ℕ) → Option (List ℕ) → ℕ → Type 0
TakesOneMore old new max = (bytes : List ℕ) × Consumes old new bytes × (length bytes ≡ max + 1)

-- these bytes are what is told, if anything is
abbrev pub Tells : Option (List ℕ) → List ℕ → Type 0
Tells None bytes = ⊤
Tells (Some told) bytes = told ≡ bytes

-- What a sink holds grew by these bytes. A sink that tells what it holds at the end told it before.
abbrev pub Gains : Option (List ℕ) → Option (List ℕ) → List ℕ → Type 0
Gains old None bytes = ⊤
Gains None (Some new) bytes = ⊥
Gains (Some old) (Some new) bytes = new ≡ old ++ bytes

-- what a sink holds grew by some first bytes of these, maybe by all
abbrev pub GainsPrefix : Option (List ℕ) → Option (List ℕ) → List ℕ → Type 0
GainsPrefix old new bytes = (sent : ℕ) × (sent ≤ length bytes) × Gains old new (take sent bytes)

-- what a sink holds stays
abbrev pub Stays : Option (List ℕ) → Option (List ℕ) → Type 0
Stays old None = ⊤
Stays None (Some new) = ⊥
Stays (Some old) (Some new) = new ≡ old

-- all the bytes came to the sink, or its count of faults rose and some first bytes came
abbrev pub GainsUnlessFault : Option (List ℕ) → Option (List ℕ) → ℕ → ℕ → List ℕ → Type 0
GainsUnlessFault old new before after bytes =
    (Gains old new bytes × (after ≡ before)) ⊎ (GainsPrefix old new bytes × Rose before after)
