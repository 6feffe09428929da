-- One turn of the loop that follows those met.
--   met-kept, met-there, met-few     what looking at a place keeps
--   passed-way           the gate is passed
--   turned-one, turned-two     the places behind it are looked at, where they are one or two
use Rattle.std.proofs.Common.{◌≡◌, ◌≢◌, ℕ, suc, ◌+◌, ◌<◌, ◌≤◌, ◌⊎◌, inl, inr, All, List, [], ◌∷◌, Some, get_or, length, max, min, slice_get, slice_index_or, take, refl, sym, ◌∙◌, ap, subst, arith}
use Rattle.std.proofs.lemmas.Bool.{cases_lt}
use Rattle.std.proofs.lemmas.List.{get_or-set_other, length-set, take_more_set}
use Rattle.std.proofs.lemmas.List.Elements.{All-append, All-cons, All-nil}
use Rattle.circuit_list.specs.declared.Gate.{Gate}
use Rattle.sabre_route.specs.Dependences.{release_at}
use Rattle.sabre_route.specs.Front.{HasPassed}
use Rattle.sabre_route.specs.Kept.{AreLinks}
use Rattle.sabre_route.specs.Looking.{HasMet, IsFollowing, IsLooking, IsOnTheWay}
use Rattle.sabre_route.proofs.LookLaws.{passed-looking, passed-next}
use Rattle.sabre_route.proofs.MeetLaws.{meeting-done, meeting-met, place-entry, IsFollowed}

-- ---- a place is looked at
pub met-kept : (gs : List Gate) (reach : List ℕ) (b limit count : ℕ) (old : List ℕ) (result : ℕ) (new : List ℕ) (k : ℕ) → HasMet gs reach b limit count old result new → k < count → get_or new k 0 ≡ get_or old k 0
met-kept gs reach b limit count old result new k (inl m) lt = ap (λ js. get_or js k 0) m.3 ∙ get_or-set_other old count k b 0 (λ e. absurd (omega (arith, lt, e)))
met-kept gs reach b limit count old result new k (inr m) lt = ap (λ js. get_or js k 0) m.2

pub met-long : (gs : List Gate) (reach : List ℕ) (b limit count : ℕ) (old : List ℕ) (result : ℕ) (new : List ℕ) → HasMet gs reach b limit count old result new → length new ≡ length old
met-long gs reach b limit count old result new (inl m) = ap length m.3 ∙ length-set old count b
met-long gs reach b limit count old result new (inr m) = ap length m.2

pub met-few : (gs : List Gate) (reach : List ℕ) (b limit count : ℕ) (old : List ℕ) (result : ℕ) (new : List ℕ) → HasMet gs reach b limit count old result new → count ≤ limit → (result ≤ limit) × (count ≤ result)
met-few gs reach b limit count old result new (inl m) le = (omega (arith, m.0, m.2), omega (arith, m.2))
met-few gs reach b limit count old result new (inr m) le = (omega (arith, le, m.1), omega (arith, m.1))

pub met-there : (gs : List Gate) (reach : List ℕ) (b limit count : ℕ) (old : List ℕ) (result : ℕ) (new : List ℕ) → HasMet gs reach b limit count old result new → limit ≤ length old
    → All (λ p. p < length gs) (take count old) → All (λ p. p < length gs) (take result new)
met-there gs reach b limit count old result new (inl m) room all =
    subst (λ (k : ℕ). All (λ p. p < length gs) (take k new)) (sym m.2)
    (subst (λ (js : List ℕ). All (λ p. p < length gs) (take (count + 1) js)) (sym m.3)
    (subst (λ (js : List ℕ). All (λ p. p < length gs) js) (sym (take_more_set old count b (omega (arith, m.0, room))))
    (All-append (λ p. p < length gs) (take count old) (b ∷ []) all (All-cons (λ p. p < length gs) b [] m.1.within (All-nil (λ p. p < length gs))))))
met-there gs reach b limit count old result new (inr m) room all =
    subst (λ (k : ℕ). All (λ p. p < length gs) (take k new)) (sym m.1) (subst (λ (js : List ℕ). All (λ p. p < length gs) (take count js)) (sym m.2) all)

-- ---- a turn
pub record IsTurn (gs : List Gate) (later : List (ℕ × ℕ)) (place : ℕ) (reach after : List ℕ) (limit : ℕ) (places : List ℕ) : Type 0 where
  pub gate : Gate
  pub there : slice_get gs place ≡ Some gate
  pub links : AreLinks gs later
  pub passed : HasPassed gs place gate reach after
  pub room : limit ≤ length places

followed : (gs : List Gate) (later : List (ℕ × ℕ)) (place : ℕ) (reach after : List ℕ) (limit : ℕ) (places : List ℕ) → IsTurn gs later place reach after limit places → IsFollowed gs after place (slice_index_or later place (0, 0))
followed gs later place reach after limit places t = record {
  gate = t.gate;
  there = t.there;
  on_first = t.links.first place t.gate t.there;
  on_second = t.links.second place t.gate t.there;
  moved = passed-next gs place t.gate reach after t.passed;
}

passed-way : (gs : List Gate) (heads : List ℕ) (later : List (ℕ × ℕ)) (e first next count limit place : ℕ) (places reach after : List ℕ) → IsTurn gs later place reach after limit places → next < count → get_or places next 0 ≡ place
    → IsFollowing gs heads e first next count limit places reach → IsOnTheWay gs heads e first (suc next) count places after (suc next) 0
passed-way gs heads later e first next count limit place places reach after t lt at h = record {
  time = h.way.time;
  place = h.way.place;
  looking = passed-looking (length heads) gs heads e first next count places reach after h.way.time h.way.place t.gate refl h.are_heads l lt
      (ap (slice_get gs) same ∙ t.there) (subst (λ (i : ℕ). HasPassed gs i t.gate reach after) (sym same) t.passed);
  goes_on = h.way.goes_on;
}
  where
    l : IsLooking gs heads e first next count places reach h.way.time h.way.place
    l = h.way.looking

    same : (release_at l.met next).1 ≡ place
    same = sym (place-entry places l.met count next l.are lt (omega (arith, lt, l.long))) ∙ at

low-one : (x y : ℕ) → (min x y ≡ x) ⊎ (min x y ≡ y)
low-one x y = go (cases_lt x y)
  where
    go : (x < y) ⊎ (y ≤ x) → (min x y ≡ x) ⊎ (min x y ≡ y)
    go (inl lt) = inl (omega arith)
    go (inr le) = inr (omega arith)

high-one : (x y : ℕ) → (max x y ≡ x) ⊎ (max x y ≡ y)
high-one x y = go (cases_lt x y)
  where
    go : (x < y) ⊎ (y ≤ x) → (max x y ≡ x) ⊎ (max x y ≡ y)
    go (inl lt) = inr (omega arith)
    go (inr le) = inl (omega arith)

pub turned-one : (gs : List Gate) (heads : List ℕ) (later : List (ℕ × ℕ)) (e first next count limit place low one : ℕ) (places reach after more : List ℕ) → IsTurn gs later place reach after limit places → next < count → get_or places next 0 ≡ place
    → low ≡ min (slice_index_or later place (0, 0)).0 (slice_index_or later place (0, 0)).1 → low ≡ max (slice_index_or later place (0, 0)).0 (slice_index_or later place (0, 0)).1
    → HasMet gs after low limit count places one more → IsFollowing gs heads e first next count limit places reach → IsFollowing gs heads e first (suc next) one limit more after
turned-one gs heads later e first next count limit place low one places reach after more t lt at is same m h = record {
  fine = h.fine;
  are_heads = h.are_heads;
  limited = h.limited;
  way =
      meeting-done gs heads e first next one more after place pair (suc low) h.fine h.are_heads (met-kept gs after low limit count places one more next m lt ∙ at) f
      (meeting-met gs heads e first next count places after place pair 0 low limit one more h.fine h.are_heads h.limited t.room at f (passed-way gs heads later e first next count limit place places reach after t lt at h)
      (omega arith) (chosen (low-one pair.0 pair.1)) none m)
      (omega (arith, same)) (omega (arith, same));
}
  where
    pair : ℕ × ℕ
    pair = slice_index_or later place (0, 0)

    f : IsFollowed gs after place pair
    f = followed gs later place reach after limit places t

    chosen : (min pair.0 pair.1 ≡ pair.0) ⊎ (min pair.0 pair.1 ≡ pair.1) → (low ≡ pair.0) ⊎ (low ≡ pair.1)
    chosen (inl c) = inl (is ∙ c)
    chosen (inr c) = inr (is ∙ c)

    none : (a : ℕ) → 0 ≤ a → a < low → (a ≡ pair.0) ⊎ (a ≡ pair.1) → ⊥
    none a z l (inl c) = omega (arith, l, is, c)
    none a z l (inr c) = omega (arith, l, is, c)

pub turned-two : (gs : List Gate) (heads : List ℕ) (later : List (ℕ × ℕ)) (e first next count limit place low high one two : ℕ) (places reach after more most : List ℕ) → IsTurn gs later place reach after limit places → next < count → get_or places next 0 ≡ place
    → low ≡ min (slice_index_or later place (0, 0)).0 (slice_index_or later place (0, 0)).1 → high ≡ max (slice_index_or later place (0, 0)).0 (slice_index_or later place (0, 0)).1 → high ≢ low
    → HasMet gs after low limit count places one more → HasMet gs after high limit one more two most → count ≤ limit → IsFollowing gs heads e first next count limit places reach → IsFollowing gs heads e first (suc next) two limit most after
turned-two gs heads later e first next count limit place low high one two places reach after more most t lt at is top differ m k few h = record {
  fine = h.fine;
  are_heads = h.are_heads;
  limited = h.limited;
  way =
      meeting-done gs heads e first next two most after place pair (suc high) h.fine h.are_heads (met-kept gs after high limit one more two most next k (omega (arith, lt, grown)) ∙ at_more) f
      (meeting-met gs heads e first next one more after place pair (suc low) high limit two most h.fine h.are_heads h.limited (omega (arith, t.room, met-long gs after low limit count places one more m)) at_more f
      (meeting-met gs heads e first next count places after place pair 0 low limit one more h.fine h.are_heads h.limited t.room at f (passed-way gs heads later e first next count limit place places reach after t lt at h)
      (omega arith) (chosen (low-one pair.0 pair.1)) none m)
      (omega (arith, is, top, differ)) (topmost (high-one pair.0 pair.1)) between k)
      (omega (arith, top)) (omega (arith, top));
}
  where
    pair : ℕ × ℕ
    pair = slice_index_or later place (0, 0)

    f : IsFollowed gs after place pair
    f = followed gs later place reach after limit places t

    grown : count ≤ one
    grown = (met-few gs after low limit count places one more m few).1

    at_more : get_or more next 0 ≡ place
    at_more = met-kept gs after low limit count places one more next m lt ∙ at

    chosen : (min pair.0 pair.1 ≡ pair.0) ⊎ (min pair.0 pair.1 ≡ pair.1) → (low ≡ pair.0) ⊎ (low ≡ pair.1)
    chosen (inl c) = inl (is ∙ c)
    chosen (inr c) = inr (is ∙ c)

    topmost : (max pair.0 pair.1 ≡ pair.0) ⊎ (max pair.0 pair.1 ≡ pair.1) → (high ≡ pair.0) ⊎ (high ≡ pair.1)
    topmost (inl c) = inl (top ∙ c)
    topmost (inr c) = inr (top ∙ c)

    none : (a : ℕ) → 0 ≤ a → a < low → (a ≡ pair.0) ⊎ (a ≡ pair.1) → ⊥
    none a z l (inl c) = omega (arith, l, is, c)
    none a z l (inr c) = omega (arith, l, is, c)

    between : (a : ℕ) → suc low ≤ a → a < high → (a ≡ pair.0) ⊎ (a ≡ pair.1) → ⊥
    between a z l (inl c) = omega (arith, z, l, is, top, c)
    between a z l (inr c) = omega (arith, z, l, is, top, c)
