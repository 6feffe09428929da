-- The ring Z[w], w the eighth root of unity: w^4 = -1.
--     Ring                four whole numbers a, b, c, d, for a + b w + c w^2 + d w^3
--     ring a b c d        the value with these four parts
--     nought, unit        0 and 1
--     plus v u            v + u
--     minus v             -v
--     turn1 v             w v
--     turn k v            w^k v
--     double n v          2^n v
--     times m v           m v, m a whole number
--     mul c v             c v
use Rattle.std.specs.Prelude.{ℕ, zero, suc, ℤ, pos, ◌+ℤ◌, ◌*ℤ◌, neg_ℤ}

pub record Ring : Type 0 where
  pub a : ℤ
  pub b : ℤ
  pub c : ℤ
  pub d : ℤ

abbrev pub ring : ℤ → ℤ → ℤ → ℤ → Ring
ring a b c d = record { a = a; b = b; c = c; d = d }

unfoldable pub nought : Ring
nought = ring (pos 0) (pos 0) (pos 0) (pos 0)

unfoldable pub unit : Ring
unit = ring (pos 1) (pos 0) (pos 0) (pos 0)

-- part by part
unfoldable pub plus : Ring → Ring → Ring
plus v u = ring (v.a +ℤ u.a) (v.b +ℤ u.b) (v.c +ℤ u.c) (v.d +ℤ u.d)

unfoldable pub minus : Ring → Ring
minus v = ring (neg_ℤ v.a) (neg_ℤ v.b) (neg_ℤ v.c) (neg_ℤ v.d)

-- a w + b w^2 + c w^3 + d w^4, and w^4 is -1
unfoldable pub turn1 : Ring → Ring
turn1 v = ring (neg_ℤ v.d) v.a v.b v.c

abbrev pub turn : ℕ → Ring → Ring
turn zero v = v
turn (suc k) v = turn1 (turn k v)

abbrev pub double : ℕ → Ring → Ring
double zero v = v
double (suc n) v = let u = double n v in plus u u

unfoldable pub times : ℤ → Ring → Ring
times m v = ring (m *ℤ v.a) (m *ℤ v.b) (m *ℤ v.c) (m *ℤ v.d)

-- a v + b (w v) + c (w^2 v) + d (w^3 v)
unfoldable pub mul : Ring → Ring → Ring
mul c v = plus (plus (times c.a v) (times c.b (turn 1 v))) (plus (times c.c (turn 2 v)) (times c.d (turn 3 v)))
