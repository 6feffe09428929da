-- The working form of amplitudes: a list of operations acts on functions of the bits. The bits may be of any kind, and the
-- values of any module over Z[w], given by their sum `add` and by `spin`, multiplication by w.
--     spins spin k v      w^k v
--     share add spin k l v    w^k (1 + w^l) v
--     step .. u f x       the values f after operation u, at the bits x before it
--     act .. us f x       the same for a list, the first operation first
--     Bits, bit, put      the bits of all wires at once, one of them, and the bits with one changed
--     applied us f x      a list on functions from Bits to Ring
--     Turns k A B         B is w^k times A on every function of the bits, weights counted
--     place p u           u on other wires: wire q becomes p(q)
use Rattle.std.specs.Prelude.{◌≡◌, ℕ, zero, suc, ◌+◌, Bool, true, false, not, cond, List, [], ◌∷◌, nat_eq}
use Rattle.unitary_model.specs.declared.Op.{Op}
use Rattle.unitary_model.specs.declared.Op.TheVariants.{U, Cx}
use Rattle.unitary_model.specs.Ring.{Ring, plus, turn1, turn, double}
use Rattle.unitary_model.specs.Operations.{weight}

abbrev pub spins : {M : Type 0} → (M → M) → ℕ → M → M
spins spin zero v = v
spins spin (suc k) v = spin (spins spin k v)

abbrev pub share : {M : Type 0} → (M → M → M) → (M → M) → ℕ → ℕ → M → M
share add spin k l v = spins spin k (add v (spins spin l v))

-- the matrix of a U as it stands at `amplitude`, minus written as w^4
abbrev pub step : {M X : Type 0} → (M → M → M) → (M → M) → (X → ℕ → Bool) → (X → ℕ → Bool → X) → Op → (X → M) → X → M
step add spin bit set (Cx c t) f x = cond (bit x c) (f (set x t (not (bit x t)))) (f x)
step add spin bit set (U a b c q) f x = cond (bit x q)
    (add (share add spin (c + 6) (a + 4) (f (set x q false))) (share add spin (b + c) a (f (set x q true))))
    (add (share add spin 0 a (f (set x q false))) (share add spin (b + 2) (a + 4) (f (set x q true))))

abbrev pub act : {M X : Type 0} → (M → M → M) → (M → M) → (X → ℕ → Bool) → (X → ℕ → Bool → X) → List Op → (X → M) → X → M
act add spin bit set [] f x = f x
act add spin bit set (u ∷ us) f x = step add spin bit set u (act add spin bit set us f) x

abbrev pub Bits : Type 0
Bits = ℕ → Bool

abbrev pub bit : Bits → ℕ → Bool
bit x q = x q

abbrev pub put : Bits → ℕ → Bool → Bits
put x q b = λ p. cond (nat_eq p q) b (x p)

abbrev pub applied : List Op → (Bits → Ring) → Bits → Ring
applied = act plus turn1 bit put

pub record Turns (k : ℕ) (A B : List Op) : Type 0 where
  pub law : (f : Bits → Ring) (x : Bits) → double (weight A) (applied B f x) ≡ turn k (double (weight B) (applied A f x))

abbrev pub place : (ℕ → ℕ) → Op → Op
place p (U a b c q) = U a b c (p q)
place p (Cx c t) = Cx (p c) (p t)
