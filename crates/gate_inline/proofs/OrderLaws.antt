-- What is made of gates in order.
--     take-take_less, get_front, get_seam, get-take       lists
--     in_order-get            what f makes of a gate, given the gates before it
--     meaning_at-below, size_at-below     of the first gates
use Rattle.std.proofs.Common.{◌≡◌, ℕ, zero, suc, ◌+◌, ◌<◌, ◌≤◌, List, [], ◌∷◌, ◌++◌, length, refl, ◌∙◌, ap, arith, Some, None, slice_get, take, unwrap_or}
use Rattle.std.specs.List.{fold}
use Rattle.std.specs.Option.{option_map}
use Rattle.gate_library.specs.Gates.{BoundGate}
use Rattle.gate_inline.specs.Meanings.{gate_meaning, in_order, meaning_at, meanings, no_meaning}
use Rattle.gate_inline.specs.Sizes.{gate_size, size, size_at, sizes}

get_front : {A : Type 0} (xs ys : List A) (i : ℕ) → i < length xs → slice_get (xs ++ ys) i ≡ slice_get xs i
get_front [] ys i h = absurd (omega arith)
get_front (x ∷ xs) ys zero h = refl
get_front (x ∷ xs) ys (suc i) h = get_front xs ys i (omega arith)

get_seam : {A : Type 0} (xs : List A) (y : A) → slice_get (xs ++ y ∷ []) (length xs) ≡ Some y
get_seam [] y = refl
get_seam (x ∷ xs) y = get_seam xs y

length_more : {A : Type 0} (xs : List A) (y : A) → length (xs ++ y ∷ []) ≡ suc (length xs)
length_more [] y = refl
length_more (x ∷ xs) y = ap (λ n. suc n) (length_more xs y)

-- what was made stays
kept : {A : Type 0} (f : List A → BoundGate → A) (gates : List BoundGate) (before : List A) (i : ℕ) → i < length before →
    slice_get (fold (λ b g. b ++ f b g ∷ []) before gates) i ≡ slice_get before i
kept f [] before i h = refl
kept f (g ∷ gates) before i h =
    kept f gates (before ++ f before g ∷ []) i (omega (arith, length_more before (f before g))) ∙ get_front before (f before g ∷ []) i h

-- from what was made so far
made : {A : Type 0} (f : List A → BoundGate → A) (gates : List BoundGate) (before : List A) (i j : ℕ) → j ≡ length before + i →
    slice_get (fold (λ b g. b ++ f b g ∷ []) before gates) j ≡ option_map (f (fold (λ b g. b ++ f b g ∷ []) before (take i gates))) (slice_get gates i)
made f [] before i j e = past before j (omega arith)
  where
    past : {A : Type 0} (xs : List A) (j : ℕ) → length xs ≤ j → slice_get xs j ≡ None
    past [] j h = refl
    past (x ∷ xs) zero h = absurd (omega arith)
    past (x ∷ xs) (suc j) h = past xs j (omega arith)
made f (g ∷ gates) before zero j e =
    kept f gates (before ++ f before g ∷ []) j (omega (arith, length_more before (f before g)))
    ∙ (let same : j ≡ length before = omega arith in ap (slice_get (before ++ f before g ∷ [])) same)
    ∙ get_seam before (f before g)
made f (g ∷ gates) before (suc i) j e = made f gates (before ++ f before g ∷ []) i j (omega (arith, length_more before (f before g)))

pub in_order-get : {A : Type 0} (f : List A → BoundGate → A) (gates : List BoundGate) (i : ℕ) →
    slice_get (in_order f gates) i ≡ option_map (f (in_order f (take i gates))) (slice_get gates i)
in_order-get f gates i = made f gates [] i i (omega arith)

pub take-take_less : {A : Type 0} (i n : ℕ) (xs : List A) → i < n → take i (take n xs) ≡ take i xs
take-take_less zero n xs h = refl
take-take_less (suc i) zero xs h = absurd (omega arith)
take-take_less (suc i) (suc n) [] h = refl
take-take_less (suc i) (suc n) (x ∷ xs) h = ap (λ ys. x ∷ ys) (take-take_less i n xs (omega arith))

pub get_take-within : {A : Type 0} (xs : List A) (n i : ℕ) (x : A) → slice_get (take n xs) i ≡ Some x → i < n
get_take-within xs zero i x h = absurd (cc)
get_take-within [] (suc n) i x h = absurd (cc)
get_take-within (y ∷ xs) (suc n) zero x h = omega arith
get_take-within (y ∷ xs) (suc n) (suc i) x h = let rest : i < n = get_take-within xs n i x h in omega arith

pub meaning_at-below : (gates : List BoundGate) (below i : ℕ) (g : BoundGate) → slice_get (take below gates) i ≡ Some g →
    meaning_at (meanings (take below gates)) i ≡ gate_meaning (meanings (take i gates)) g
meaning_at-below gates below i g h =
    ap (λ o. unwrap_or o no_meaning) (in_order-get gate_meaning (take below gates) i ∙ ap (option_map (gate_meaning (meanings (take i (take below gates))))) h)
    ∙ ap (λ xs. gate_meaning (meanings xs) g) (take-take_less i below gates (get_take-within gates below i g h))

pub size_at-below : (gates : List BoundGate) (below i : ℕ) (g : BoundGate) → slice_get (take below gates) i ≡ Some g →
    size_at (sizes (take below gates)) i ≡ gate_size (sizes (take i gates)) g
size_at-below gates below i g h =
    ap (λ o. unwrap_or o (size 0 1)) (in_order-get gate_size (take below gates) i ∙ ap (option_map (gate_size (sizes (take i (take below gates))))) h)
    ∙ ap (λ xs. gate_size (sizes xs) g) (take-take_less i below gates (get_take-within gates below i g h))

pub meaning_at-none : (gates : List BoundGate) (below i : ℕ) → slice_get (take below gates) i ≡ None → meaning_at (meanings (take below gates)) i ≡ no_meaning
meaning_at-none gates below i h =
    ap (λ o. unwrap_or o no_meaning) (in_order-get gate_meaning (take below gates) i ∙ ap (option_map (gate_meaning (meanings (take i (take below gates))))) h)

pub size_at-none : (gates : List BoundGate) (below i : ℕ) → slice_get (take below gates) i ≡ None → size_at (sizes (take below gates)) i ≡ size 0 1
size_at-none gates below i h =
    ap (λ o. unwrap_or o (size 0 1)) (in_order-get gate_size (take below gates) i ∙ ap (option_map (gate_size (sizes (take i (take below gates))))) h)
