-- Numbers that look drawn: a linear congruence modulo 2^64, of which the upper 31 bits are given.
--     next x        the state that follows x
--     draw x        the number that is drawn in state x: the state that follows, divided by 2^33
--     draws x n     the first n numbers that are drawn from state x on
use Rattle.std.specs.Prelude.{ℕ, zero, suc, ◌+◌, ◌*◌, ◌/◌, ◌%◌, ◌^◌, List, [], ◌∷◌}

unfoldable pub next : ℕ → ℕ
next x = (6364136223846793005 * x + 1442695040888963407) % 2 ^ 64

unfoldable pub draw : ℕ → ℕ
draw x = next x / 2 ^ 33

abbrev pub draws : ℕ → ℕ → List ℕ
draws x zero = []
draws x (suc n) = draw x ∷ draws (next x) n
