-- The places of slots, and where they go when one is taken out or put behind the others.
--   place_of-earlier, place_of-later    one is taken out behind it, and before it
--   place_of-push                       one more
--   place-lower, lower-place            slots and their places have one order
use Rattle.std.proofs.Common.{◌≡◌, ℕ, zero, suc, ◌+◌, ◌<◌, ◌≤◌, ◌==◌, Bool, true, false, cond, List, [], ◌∷◌, ◌++◌, Some, refl, sym, ap, ◌∙◌, arith, length, slice_get, inl, inr, ◌⊎◌}
use Rattle.std.proofs.lemmas.Bool.{eqb-true}
use Rattle.std.specs.List.{remove}
use Rattle.circuit_list.specs.Body.{Body}
use Rattle.circuit_list.specs.Slots.{Ascend, IsLive, place_of}
use Rattle.circuit_list.proofs.TreeLaws.{order}

pub place_of-earlier : (t i : ℕ) (xs : List ℕ) → place_of t xs < i → place_of t (remove xs i) ≡ place_of t xs
place_of-earlier t zero xs h = absurd (omega arith)
place_of-earlier t (suc i) [] h = refl
place_of-earlier t (suc i) (x ∷ xs) h = at (λ k. place_of-earlier t i xs k) (t == x) h
  where
    at : (place_of t xs < i → place_of t (remove xs i) ≡ place_of t xs) → (b : Bool) → cond b 0 (suc (place_of t xs)) < suc i
        → cond b 0 (suc (place_of t (remove xs i))) ≡ cond b 0 (suc (place_of t xs))
    at rest true k = refl
    at rest false k = ap suc (rest (omega arith))

pub place_of-later : (t i : ℕ) (xs : List ℕ) → i < place_of t xs → place_of t (remove xs i) + 1 ≡ place_of t xs
place_of-later t i [] h = absurd (omega arith)
place_of-later t zero (x ∷ xs) h = at (t == x) h
  where
    at : (b : Bool) → 0 < cond b 0 (suc (place_of t xs)) → place_of t xs + 1 ≡ cond b 0 (suc (place_of t xs))
    at true k = absurd (omega arith)
    at false k = omega arith
place_of-later t (suc i) (x ∷ xs) h = at (λ k. place_of-later t i xs k) (t == x) h
  where
    at : (i < place_of t xs → place_of t (remove xs i) + 1 ≡ place_of t xs) → (b : Bool) → suc i < cond b 0 (suc (place_of t xs))
        → cond b 0 (suc (place_of t (remove xs i))) + 1 ≡ cond b 0 (suc (place_of t xs))
    at rest true k = absurd (omega arith)
    at rest false k = let r = rest (omega arith) in omega arith

pub place_of-push : (t s : ℕ) (xs : List ℕ) → place_of t xs < length xs → place_of t (xs ++ s ∷ []) ≡ place_of t xs
place_of-push t s [] h = absurd (omega arith)
place_of-push t s (x ∷ xs) h = at (λ k. place_of-push t s xs k) (t == x) h
  where
    at : (place_of t xs < length xs → place_of t (xs ++ s ∷ []) ≡ place_of t xs) → (b : Bool) → cond b 0 (suc (place_of t xs)) < suc (length xs)
        → cond b 0 (suc (place_of t (xs ++ s ∷ []))) ≡ cond b 0 (suc (place_of t xs))
    at rest true k = refl
    at rest false k = ap suc (rest (omega arith))

place-get : (s : ℕ) (xs : List ℕ) → place_of s xs < length xs → slice_get xs (place_of s xs) ≡ Some s
place-get s [] h = absurd (omega arith)
place-get s (x ∷ xs) h = at (λ k. place-get s xs k) (s == x) refl h
  where
    at : (place_of s xs < length xs → slice_get xs (place_of s xs) ≡ Some s) → (b : Bool) → (s == x) ≡ b → cond b 0 (suc (place_of s xs)) < suc (length xs)
        → slice_get (x ∷ xs) (cond b 0 (suc (place_of s xs))) ≡ Some s
    at rest true e k = ap Some (sym (eqb-true s x e))
    at rest false e k = rest (omega arith)

pub lower-place : (b : Body) → Ascend b.slots → length b.slots ≡ length b.gates → (s t : ℕ) → IsLive b s → IsLive b t → place_of s b.slots < place_of t b.slots → s < t
lower-place b up same s t live other lt =
    up (place_of s b.slots) (place_of t b.slots) s t lt (place-get s b.slots (omega arith)) (place-get t b.slots (omega arith))

pub place-lower : (b : Body) → Ascend b.slots → length b.slots ≡ length b.gates → (s t : ℕ) → IsLive b s → IsLive b t → s < t → place_of s b.slots < place_of t b.slots
place-lower b up same s t live other lt = at (order (place_of s b.slots) (place_of t b.slots))
  where
    here : slice_get b.slots (place_of s b.slots) ≡ Some s
    here = place-get s b.slots (omega arith)

    there : slice_get b.slots (place_of t b.slots) ≡ Some t
    there = place-get t b.slots (omega arith)

    equal : place_of s b.slots ≡ place_of t b.slots → s ≡ t
    equal e = let one : Some s ≡ Some t = sym here ∙ ap (slice_get b.slots) e ∙ there in cc

    at : (place_of s b.slots < place_of t b.slots) ⊎ (place_of t b.slots ≤ place_of s b.slots) → place_of s b.slots < place_of t b.slots
    at (inl below) = below
    at (inr le) = strict (order (place_of t b.slots) (place_of s b.slots))
      where
        strict : (place_of t b.slots < place_of s b.slots) ⊎ (place_of s b.slots ≤ place_of t b.slots) → place_of s b.slots < place_of t b.slots
        strict (inl below) = let more : t < s = lower-place b up same t s other live below in absurd (omega arith)
        strict (inr ge) = let one : s ≡ t = equal (omega arith) in absurd (omega arith)
