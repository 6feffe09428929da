-- The first number at which a test holds.
--   first_where-here     the test holds at once
--   first_where-next     it doesn't, so a later one is the first
--   first_where-none     no number is left
use Rattle.std.proofs.Common.{◌≡◌, ℕ, zero, suc, ◌+◌, ◌<◌, Bool, true, false, Some, None, refl, arith}
use Rattle.angle_fraction.specs.Angles.{first_where}

pub first_where-here : (p : ℕ → Bool) (k n : ℕ) → p k ≡ true → 0 < n → first_where p k n ≡ Some k
unfolding first_where
first_where-here p k zero e some = absurd (omega arith)
first_where-here p k (suc n) e some = rw e refl

pub first_where-next : (p : ℕ → Bool) (k m n : ℕ) → p k ≡ false → m ≡ suc n → first_where p k m ≡ first_where p (k + 1) n
unfolding first_where
first_where-next p k m n e f = rw (f, e) refl

pub first_where-none : (p : ℕ → Bool) (k n : ℕ) → n ≡ 0 → first_where p k n ≡ None
unfolding first_where
first_where-none p k n e = rw e refl
