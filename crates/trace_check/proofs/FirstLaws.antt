-- A gate that is first on its wires, as the code finds it.
--     first-blocked       an earlier gate is on a wire of the gate at the place
--     first-free          none is
--     first-past          the place is behind the list
use Rattle.std.proofs.Common.{◌≡◌, ℕ, ◌≤◌, ◌⊎◌, inl, inr, ◌||◌, Bool, true, false, List, length, Option, Some, refl, sym, subst, arith, slice_get}
use Rattle.std.proofs.lemmas.Bool.Decides.{nat_tests}
use Rattle.std.proofs.lemmas.Option.{slice_get_within}
use Rattle.circuit_list.specs.declared.Gate.{Gate}
use Rattle.circuit_list.specs.declared.Gate.TheVariants.{H, X, P, Cx}
use Rattle.circuit_list.specs.Gates.{first_wire, second_wire, is_on}
use Rattle.circuit_list.specs.Slots.{IsPrevOn, NoneBefore, is_on_at}
use Rattle.trace_model.specs.Proves.{IsFirst}

same_gate : (gs : List Gate) (i : ℕ) (g h : Gate) → slice_get gs i ≡ Some g → slice_get gs i ≡ Some h → g ≡ h
same_gate gs i g h a b = cc

either : (a b : Bool) → (a || b) ≡ true → (a ≡ true) ⊎ (b ≡ true)
either true b e = inl refl
either false b e = inr e

same : (w q : ℕ) → is_on w (H q) ≡ true → w ≡ q
same w q e = grind (arith, nat_tests)

-- a wire of a gate is its first or its second
ends : (w : ℕ) (g : Gate) → is_on w g ≡ true → (w ≡ first_wire g) ⊎ (w ≡ second_wire g)
ends w (H q) e = inl (same w q e)
ends w (X q) e = inl (same w q e)
ends w (P k q) e = inl (same w q e)
ends w (Cx c t) e = go (either (is_on w (H c)) (is_on w (H t)) e)
  where
    go : (is_on w (H c) ≡ true) ⊎ (is_on w (H t) ≡ true) → (w ≡ c) ⊎ (w ≡ t)
    go (inl f) = inl (same w c f)
    go (inr f) = inr (same w t f)

self : (q : ℕ) → is_on q (H q) ≡ true
self q = grind (arith, nat_tests)

or_second : (a b : Bool) → b ≡ true → (a || b) ≡ true
or_second true b e = refl
or_second false b e = e

or_first : (a b : Bool) → a ≡ true → (a || b) ≡ true
or_first true b e = refl
or_first false b e = absurd (cc)

on_first : (g : Gate) → is_on (first_wire g) g ≡ true
on_first (H q) = self q
on_first (X q) = self q
on_first (P k q) = self q
on_first (Cx c t) = or_first (is_on c (H c)) (is_on c (H t)) (self c)

on_second : (g : Gate) → is_on (second_wire g) g ≡ true
on_second (H q) = self q
on_second (X q) = self q
on_second (P k q) = self q
on_second (Cx c t) = or_second (is_on t (H c)) (is_on t (H t)) (self t)

blocked : (gs : List Gate) (i w j : ℕ) → IsPrevOn w gs i j → NoneBefore w gs i → ⊥
blocked gs i w j p n = let a = p.on in let b : is_on_at w gs j ≡ false = n j p.before in cc

pub first-blocked : (gs : List Gate) (i w j : ℕ) (g : Gate) → slice_get gs i ≡ Some g → is_on w g ≡ true → IsPrevOn w gs i j → (h : Gate) → IsFirst gs i h → ⊥
first-blocked gs i w j g e on p h f =
    let s : g ≡ h = same_gate gs i g h e f.there in
    go (ends w h (subst (λ x. is_on w x ≡ true) s on))
  where
    go : (w ≡ first_wire h) ⊎ (w ≡ second_wire h) → ⊥
    go (inl x) = blocked gs i (first_wire h) j (subst (λ v. IsPrevOn v gs i j) x p) f.first
    go (inr x) = blocked gs i (second_wire h) j (subst (λ v. IsPrevOn v gs i j) x p) f.second

pub first-free : (gs : List Gate) (i a : ℕ) (o : Option ℕ) (g : Gate) → slice_get gs i ≡ Some g → ((w : ℕ) → is_on w g ≡ true → (w ≡ a) ⊎ (o ≡ Some w)) → NoneBefore a gs i → ((w : ℕ) → o ≡ Some w → NoneBefore w gs i) → IsFirst gs i g
first-free gs i a o g e all n m = record { there = e; first = at (first_wire g) (all (first_wire g) (on_first g)); second = at (second_wire g) (all (second_wire g) (on_second g)) }
  where
    at : (w : ℕ) → (w ≡ a) ⊎ (o ≡ Some w) → NoneBefore w gs i
    at w (inl x) = subst (λ v. NoneBefore v gs i) (sym x) n
    at w (inr x) = m w x

pub first-past : (gs : List Gate) (i : ℕ) (h : Gate) → length gs ≤ i → IsFirst gs i h → ⊥
first-past gs i h le f = absurd (omega (arith, slice_get_within gs i h f.there, le))

pub ruleset first_laws = (first-blocked, first-free, first-past)
