-- Working form. How a word is mixed into the state of a hasher.
--     mixed s w       the state s with the word w mixed in, as std's hasher mixes in the eight bytes of w
use Rattle.std.specs.Prelude.{ℕ, bit_xor}
use Rattle.std.specs.Hash.FoldHasher.{folded_multiply}

abbrev pub mixed : ℕ → ℕ → ℕ
mixed s w = folded_multiply (bit_xor s w) 0x9e37_79b9_7f4a_7c05
