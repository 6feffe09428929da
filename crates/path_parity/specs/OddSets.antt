-- Working form. The code's odd set: keys of some kind, each with its row.
--     HoldsSets items keys s  the keys hold the labels of s: they are as many, and a key stands among them where its set is in s
--     IsOddSet o s            the program's odd set holds the labels of s
use Rattle.std.specs.Prelude.{◌≡◌, ℕ, List, length, nat_eq}
use Rattle.std.specs.List.{list_any}
use Rattle.path_parity.specs.OddLabels.{is_odd, IsOnce}
use Rattle.path_parity.specs.Sets.{set_of, IsPacked}
use Rattle.path_parity.specs.declared.odd_set.OddSet.{OddSet}
use lib.Pointwise.{pointwise}

pub record HoldsSets {K : Type 0} (items : K → List ℕ) (keys : List K) (s : List ℕ) : Type 0 where
  pub many : length keys ≡ length s
  pub once : IsOnce s
  pub has : (row : List ℕ) → IsPacked row → list_any (λ k. pointwise nat_eq row (items k)) keys ≡ is_odd (set_of row) s

abbrev pub IsOddSet : OddSet → List ℕ → Type 0
IsOddSet o s = HoldsSets (λ k. k.items) o.sets.keys s
