-- Working form. Terms whose phase is 0 modulo 8, told by taking one set after another for a variable of its own.
--     has_variable p m    whether variable p is in the set m
--     moved_sets s p ts        the terms with s added to each set that has p
--     twice s p ts        those of them that had p, with twice what stands there, modulo 8
--     with_variable p ts  what stands on the sets that have p, together
use Rattle.std.specs.Prelude.{ℕ, ◌+◌, ◌*◌, ◌%◌, Bool, cond, List, [], ◌∷◌, nat_eq, bit_xor}
use Rattle.std.specs.Int.{bit_at}

abbrev pub has_variable : ℕ → ℕ → Bool
has_variable p m = nat_eq (bit_at m p) 1

abbrev pub moved_sets : ℕ → ℕ → List (ℕ × ℕ) → List (ℕ × ℕ)
moved_sets s p [] = []
moved_sets s p (e ∷ es) = (cond (has_variable p e.0) (bit_xor e.0 s) e.0, e.1) ∷ moved_sets s p es

abbrev pub twice : ℕ → ℕ → List (ℕ × ℕ) → List (ℕ × ℕ)
twice s p [] = []
twice s p (e ∷ es) = cond (has_variable p e.0) ((bit_xor e.0 s, e.1 * 2 % 8) ∷ twice s p es) (twice s p es)

abbrev pub with_variable : ℕ → List (ℕ × ℕ) → ℕ
with_variable p [] = 0
with_variable p (e ∷ es) = cond (has_variable p e.0) e.1 0 + with_variable p es
