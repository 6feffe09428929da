-- How large ring values are.
--     within-plus, within-minus, within-turn, within-more, within-one_plus, within-one_minus      sizes of parts
--     turn_within, minus_within, one_plus_within, one_minus_within        the same of a value that equals one
--     within-unit, within-nought      1 and 0
use Rattle.std.proofs.Common.{◌≡◌, ℕ, zero, suc, ◌+◌, ◌≤◌, sym, subst, arith}
use Rattle.std.proofs.lemmas.Int.{ints}
use Rattle.unitary_model.specs.Ring.{Ring, nought, unit, plus, minus, turn1, turn}
use Rattle.unitary_model.specs.Amplitude.{one_plus, one_minus}
use Rattle.amplitude_exact.specs.Columns.{IsWithin}

pub within-plus : (m n : ℕ) (v u : Ring) → IsWithin m v → IsWithin n u → IsWithin (m + n) (plus v u)
unfolding plus
within-plus m n v u h g = record {
  a_low = omega (arith, ints, h.a_low, g.a_low);
  a_high = omega (arith, ints, h.a_high, g.a_high);
  b_low = omega (arith, ints, h.b_low, g.b_low);
  b_high = omega (arith, ints, h.b_high, g.b_high);
  c_low = omega (arith, ints, h.c_low, g.c_low);
  c_high = omega (arith, ints, h.c_high, g.c_high);
  d_low = omega (arith, ints, h.d_low, g.d_low);
  d_high = omega (arith, ints, h.d_high, g.d_high);
}

pub within-minus : (n : ℕ) (v : Ring) → IsWithin n v → IsWithin n (minus v)
unfolding minus
within-minus n v h = record {
  a_low = omega (arith, ints, h.a_high);
  a_high = omega (arith, ints, h.a_low);
  b_low = omega (arith, ints, h.b_high);
  b_high = omega (arith, ints, h.b_low);
  c_low = omega (arith, ints, h.c_high);
  c_high = omega (arith, ints, h.c_low);
  d_low = omega (arith, ints, h.d_high);
  d_high = omega (arith, ints, h.d_low);
}

within-turn1 : (n : ℕ) (v : Ring) → IsWithin n v → IsWithin n (turn1 v)
unfolding turn1
within-turn1 n v h = record {
  a_low = omega (arith, ints, h.d_high);
  a_high = omega (arith, ints, h.d_low);
  b_low = h.a_low;
  b_high = h.a_high;
  c_low = h.b_low;
  c_high = h.b_high;
  d_low = h.c_low;
  d_high = h.c_high;
}

pub within-turn : (n k : ℕ) (v : Ring) → IsWithin n v → IsWithin n (turn k v)
within-turn n zero v h = h
within-turn n (suc k) v h = within-turn1 n (turn k v) (within-turn n k v h)

pub within-more : (m n : ℕ) (v : Ring) → m ≤ n → IsWithin m v → IsWithin n v
within-more m n v le h = record {
  a_low = omega (arith, ints, h.a_low, le);
  a_high = omega (arith, ints, h.a_high, le);
  b_low = omega (arith, ints, h.b_low, le);
  b_high = omega (arith, ints, h.b_high, le);
  c_low = omega (arith, ints, h.c_low, le);
  c_high = omega (arith, ints, h.c_high, le);
  d_low = omega (arith, ints, h.d_low, le);
  d_high = omega (arith, ints, h.d_high, le);
}

pub within-one_plus : (n a : ℕ) (v : Ring) → IsWithin n v → IsWithin (n + n) (one_plus a v)
within-one_plus n a v h = within-plus n n v (turn a v) h (within-turn n a v h)

pub within-one_minus : (n a : ℕ) (v : Ring) → IsWithin n v → IsWithin (n + n) (one_minus a v)
within-one_minus n a v h = within-plus n n v (minus (turn a v)) h (within-minus n (turn a v) (within-turn n a v h))

-- the same of what is equal, as a program's value is
pub turn_within : (m n k : ℕ) (v r : Ring) → m ≤ n → IsWithin m v → r ≡ turn k v → IsWithin n r
turn_within m n k v r le h e = subst (IsWithin n) (sym e) (within-turn n k v (within-more m n v le h))

pub minus_within : (n : ℕ) (v r : Ring) → IsWithin n v → r ≡ minus v → IsWithin n r
minus_within n v r h e = subst (IsWithin n) (sym e) (within-minus n v h)

pub one_plus_within : (m n a : ℕ) (v r : Ring) → m + m ≤ n → IsWithin m v → r ≡ one_plus a v → IsWithin n r
one_plus_within m n a v r le h e = subst (IsWithin n) (sym e) (within-more (m + m) n (one_plus a v) le (within-one_plus m a v h))

pub one_minus_within : (m n a : ℕ) (v r : Ring) → m + m ≤ n → IsWithin m v → r ≡ one_minus a v → IsWithin n r
one_minus_within m n a v r le h e = subst (IsWithin n) (sym e) (within-more (m + m) n (one_minus a v) le (within-one_minus m a v h))

pub within-unit : IsWithin 1 unit
unfolding unit
within-unit = record { a_low = omega (arith, ints); a_high = omega (arith, ints); b_low = omega (arith, ints); b_high = omega (arith, ints); c_low = omega (arith, ints); c_high = omega (arith, ints); d_low = omega (arith, ints); d_high = omega (arith, ints) }

pub within-nought : IsWithin 1 nought
unfolding nought
within-nought = record { a_low = omega (arith, ints); a_high = omega (arith, ints); b_low = omega (arith, ints); b_high = omega (arith, ints); c_low = omega (arith, ints); c_high = omega (arith, ints); d_low = omega (arith, ints); d_high = omega (arith, ints) }
