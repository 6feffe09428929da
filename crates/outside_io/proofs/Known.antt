-- Bytes that come and go in several steps.
--   Gains-none, Gains-append, Gains-take, Gains-stays     a sink that gained some bytes, and then more or none
--   GainsPrefix-take, GainsPrefix-whole, GainsPrefix-stays  what came is a prefix of what was sent
--   drop-copied, drop-at_end                               what a source has left behind what was copied
use Rattle.std.proofs.Common.{◌≡◌, ℕ, ◌+◌, ◌-◌, ◌≤◌, List, [], ◌++◌, Option, Some, None, length, take, drop, refl, sym, append_assoc, arith}
use Rattle.std.proofs.lemmas.List.{append-nil, take-append-drop, drop-take}
use Rattle.std.proofs.lemmas.Grind.{common_steps}
use Rattle.outside_io.specs.Bytes.{Gains, GainsPrefix, Stays}

pub take-plus : {X : Type 0} (n m : ℕ) (xs : List X) → take (n + m) xs ≡ take n xs ++ take m (drop n xs)
take-plus n m xs =
    let e : take n (take (n + m) xs) ≡ take n xs = grind (arith, common_steps) in
    rw (← take-append-drop n (take (n + m) xs), e, drop-take) refl

pub Gains-none : (a : Option (List ℕ)) → Gains a a []
Gains-none None = tt
Gains-none (Some xs) = sym (append-nil xs)

pub Gains-append : (a b c : Option (List ℕ)) (xs ys : List ℕ)
    → Gains a b xs → Gains b c ys → Gains a c (xs ++ ys)
Gains-append a b None xs ys p q = tt
Gains-append a None (Some new) xs ys p q = absurd q
Gains-append None (Some mid) (Some new) xs ys p q = absurd p
Gains-append (Some old) (Some mid) (Some new) xs ys p q = rw (q, p) (append_assoc old xs ys)

-- what was sent of a slice, and some more of the rest `&xs[n..]`
pub Gains-take : (a b c : Option (List ℕ)) (xs : List ℕ) (n m : ℕ)
    → Gains a b (take n xs) → Gains b c (take m (take (length xs - n) (drop n xs))) → Gains a c (take (n + m) xs)
Gains-take a b c xs n m p q =
    let whole : take (length xs - n) (drop n xs) ≡ drop n xs = grind (arith, common_steps) in
    rw (take-plus n m xs) (Gains-append a b c (take n xs) (take m (drop n xs)) p (rw whole at q))

pub Gains-stays : (a b c : Option (List ℕ)) (xs : List ℕ) → Gains a b xs → Stays b c → Gains a c xs
Gains-stays a b None xs p q = tt
Gains-stays a None (Some new) xs p q = absurd q
Gains-stays None (Some mid) (Some new) xs p q = absurd p
Gains-stays (Some old) (Some mid) (Some new) xs p q = rw q p

pub GainsPrefix-take : (a b c : Option (List ℕ)) (xs : List ℕ) (n : ℕ) → n ≤ length xs
    → Gains a b (take n xs) → Stays b c → GainsPrefix a c xs
GainsPrefix-take a b c xs n h p q = (n, h, Gains-stays a b c (take n xs) p q)

pub GainsPrefix-whole : (a b : Option (List ℕ)) (xs : List ℕ) → Gains a b xs → GainsPrefix a b xs
GainsPrefix-whole a b xs p =
    let whole : take (length xs) xs ≡ xs = grind (arith, common_steps) in
    (length xs, omega arith, rw whole p)

pub GainsPrefix-stays : (a b c : Option (List ℕ)) (xs : List ℕ) → Gains a b xs → Stays b c → GainsPrefix a c xs
GainsPrefix-stays a b c xs p q = GainsPrefix-whole a c xs (Gains-stays a b c xs p q)

pub ruleset send_steps = (Gains-stays, GainsPrefix-stays)

pub ruleset write_steps = (Gains-none, Gains-take, GainsPrefix-take)

-- the bytes from a place on, as some that were copied and those behind them
pub drop-copied : (bytes piece : List ℕ) (at n : ℕ) → n ≤ length (take (length bytes - at) (drop at bytes))
    → take n piece ≡ take n (take (length bytes - at) (drop at bytes)) → drop at bytes ≡ take n piece ++ drop (at + n) bytes
drop-copied bytes piece at n h e =
    let whole : take (length bytes - at) (drop at bytes) ≡ drop at bytes = grind (arith, common_steps) in
    let past : drop (at + n) bytes ≡ drop n (drop at bytes) = grind (arith, common_steps) in
    rw (e, whole, past) (sym (take-append-drop n (drop at bytes)))

pub drop-at_end : (bytes : List ℕ) (at : ℕ) → take (length bytes - at) (drop at bytes) ≡ [] → drop (at + 0) bytes ≡ []
drop-at_end bytes at e =
    let whole : take (length bytes - at) (drop at bytes) ≡ drop at bytes = grind (arith, common_steps) in
    let same : at + 0 ≡ at = omega arith in
    rw (same, ← whole) e

pub ruleset read_steps = (drop-copied, drop-at_end)
