-- What a lookout writes: the qubits of its extended set.
--   layer-wires          the qubits of a front layer, back on their wires
--   layer-there          which are wires of the lookout
--   shown-begun          the front layer is met
--   begun-there, shown-places, shown-room     its places, and those behind
--   shown-set            what is written is the extended set
use Rattle.std.proofs.Common.{◌≡◌, ℕ, suc, ◌+◌, ◌-◌, ◌<◌, ◌≤◌, ◌⊎◌, inl, inr, All, List, [], ◌∷◌, ◌++◌, drop, get_or, length, map, slice_index, take, refl, sym, ◌∙◌, ap, subst, arith}
use Rattle.std.specs.List.{AllByRecursion}
use Rattle.std.proofs.lemmas.Bool.{cases_lt}
use Rattle.std.proofs.lemmas.List.{get_or_past, length-append, length-take}
use Rattle.std.proofs.lemmas.List.Elements.{All-drop, All-from_recursion, All-take, recursion_from_All}
use Rattle.std.proofs.lemmas.Option.{slice_get-get_or}
use Rattle.std.proofs.lemmas.Slice.{between_is}
use Rattle.circuit_list.specs.declared.Gate.{Gate}
use Rattle.circuit_list.specs.declared.Gate.TheVariants.{H, X, P, Cx}
use Rattle.circuit_list.specs.Gates.{IsFine}
use Rattle.unitary_model.specs.Placement.{IsPlacement, position_of}
use Rattle.sabre_route.specs.Ahead.{Outlook}
use Rattle.sabre_route.specs.Dependences.{release_at, IsAlong}
use Rattle.sabre_route.specs.Front.{is_left, rest}
use Rattle.sabre_route.specs.Looking.{HasFollowed, IsFollowing, IsLayer, IsLookout, IsWrittenSet}
use Rattle.sabre_route.specs.Scores.{placed, AreWithin}
use Rattle.sabre_route.specs.Search.{front, gate_pairs, most_extended, pairs_at}
use Rattle.sabre_route.proofs.FollowLaws.{cut-at, following-begun, IsCut}
use Rattle.sabre_route.proofs.FrontLaws.{front-wires, length-placed, AreWires}
use Rattle.sabre_route.proofs.NextLaws.{fine_at}
use Rattle.sabre_route.proofs.PairLaws.{fine-left}
use Rattle.sabre_route.proofs.RankLaws.{along-left}

-- ---- the front layer's wires
fine-rest : (n : ℕ) (gs : List Gate) (heads : List ℕ) (m : ℕ) → All (IsFine n) gs → AllByRecursion (IsFine n) (take m (rest heads gs))
unfolding rest
fine-rest n gs heads m fine =
    let left = All-from_recursion (IsFine n) _ (fine-left n (is_left heads) 0 gs (recursion_from_All (IsFine n) gs fine)) in
    recursion_from_All (IsFine n) _ (All-take (IsFine n) m _ left)

pub layer-wires : (n : ℕ) (q heads : List ℕ) (ps : List (ℕ × ℕ)) → IsPlacement (length q) q → n ≤ length q → AreWires n ps
    → map (λ p. slice_index heads (position_of p.0 q)) (placed q ps) ≡ map (λ p. slice_index heads p.0) ps
layer-wires n q heads [] h le w = refl
layer-wires n q heads (p ∷ ps) h le w = λ z. slice_index heads (h.once p.0 (omega (arith, w.0.0, le)) z) ∷ layer-wires n q heads ps h le w.1 z

there-each : (n : ℕ) (q : List ℕ) (ps : List (ℕ × ℕ)) → IsPlacement (length q) q → n ≤ length q → AreWires n ps → AllByRecursion (λ p. (p.0 < length q) × (position_of p.0 q < n)) (placed q ps)
there-each n q [] h le w = tt
there-each n q (p ∷ ps) h le w = ((h.within p.0 (omega (arith, w.0.0, le)), omega (arith, h.once p.0 (omega (arith, w.0.0, le)), w.0.0)), there-each n q ps h le w.1)

-- what is known in a call
pub record IsCalled (gs : List Gate) (heads : List ℕ) (later : List (ℕ × ℕ)) (o : Outlook) (q : List ℕ) : Type 0 where
  pub lookout : IsLookout gs heads later
  pub view : record { wires = length heads; left = rest heads gs } ≡ o
  pub placement : IsPlacement (length q) q
  pub fits : o.wires ≤ length q

wires-of : (gs : List Gate) (heads : List ℕ) (later : List (ℕ × ℕ)) (o : Outlook) (q : List ℕ) → IsCalled gs heads later o q → length heads ≡ o.wires
wires-of gs heads later o q h = ap (λ (x : Outlook). x.wires) h.view

left-of : (gs : List Gate) (heads : List ℕ) (later : List (ℕ × ℕ)) (o : Outlook) (q : List ℕ) → IsCalled gs heads later o q → rest heads gs ≡ o.left
left-of gs heads later o q h = ap (λ (x : Outlook). x.left) h.view

front-within : (gs : List Gate) (heads : List ℕ) (later : List (ℕ × ℕ)) (o : Outlook) (q : List ℕ) (m : ℕ) → IsCalled gs heads later o q → AreWires (length heads) (front (take m o.left))
front-within gs heads later o q m h = subst (λ (xs : List Gate). AreWires (length heads) (front (take m xs))) (left-of gs heads later o q h)
    (front-wires (length heads) (take m (rest heads gs)) (fine-rest (length heads) gs heads m h.lookout.fine))

pub layer-there : (gs : List Gate) (heads read : List ℕ) (later : List (ℕ × ℕ)) (o : Outlook) (q : List ℕ) (layer : List (ℕ × ℕ)) → IsCalled gs heads later o q → IsLayer o q layer → read ≡ heads
    → All (λ p. (p.0 < length q) × (position_of p.0 q < length read)) layer
layer-there gs heads read later o q layer h l same =
    subst (λ (js : List ℕ). All (λ p. (p.0 < length q) × (position_of p.0 q < length js)) layer) (sym same)
    (subst (λ (xs : List (ℕ × ℕ)). All (λ p. (p.0 < length q) × (position_of p.0 q < length heads)) xs) (sym l.is)
    (All-from_recursion _ (placed q (front (take l.many o.left)))
    (there-each (length heads) q (front (take l.many o.left)) h.placement (omega (arith, wires-of gs heads later o q h, h.fits)) (front-within gs heads later o q l.many h))))

-- the front layer is met, its first m gates being left before place e
pub shown-begun : (gs : List Gate) (heads read : List ℕ) (later : List (ℕ × ℕ)) (o : Outlook) (q : List ℕ) (layer : List (ℕ × ℕ)) (m e : ℕ) (places reach : List ℕ) (limit : ℕ) → IsCalled gs heads later o q
    → layer ≡ placed q (front (take m o.left)) → IsCut heads gs m e → read ≡ heads → reach ≡ heads → take (length layer) places ≡ map (λ p. slice_index read (position_of p.0 q)) layer → limit ≡ length layer + most_extended
    → IsFollowing gs heads e (length layer) 0 (length layer) limit places reach
shown-begun gs heads read later o q layer m e places reach limit h is cut same back begin limited =
    subst (λ (js : List ℕ). IsFollowing gs heads e (length layer) 0 (length layer) limit places js) (sym back)
    (subst (λ (k : ℕ). IsFollowing gs heads e k 0 k limit places heads) (sym size)
    (following-begun gs heads later m e limit ps places h.lookout cut (ap (λ (xs : List Gate). front (take m xs)) (sym (left-of gs heads later o q h)))
    (ap (λ k. take k places) (sym size) ∙ begin ∙ (λ z. map (λ p. slice_index (same z) (position_of p.0 q)) (is z))
    ∙ layer-wires (length heads) q heads ps h.placement (omega (arith, wires-of gs heads later o q h, h.fits)) (front-within gs heads later o q m h))
    (omega (arith, limited, size))))
  where
    ps : List (ℕ × ℕ)
    ps = front (take m o.left)

    size : length layer ≡ length ps
    size = ap length is ∙ length-placed q ps

each-entry : (Q : ℕ → Type 0) (met : List (ℕ × ℕ)) → ((k : ℕ) → k < length met → Q (release_at met k).1) → AllByRecursion Q (map (λ p. p.1) met)
each-entry Q [] h = tt
each-entry Q (p ∷ met) h = (h 0 (omega arith), each-entry Q met (λ k lt. h (suc k) (omega arith)))

pub begun-there : (gs : List Gate) (heads : List ℕ) (e first count limit : ℕ) (places reach : List ℕ) → IsFollowing gs heads e first 0 count limit places reach → All (λ p. p < length gs) (take count places)
begun-there gs heads e first count limit places reach h =
    let l = h.way.looking in
    subst (λ (js : List ℕ). All (λ p. p < length gs) js) (sym l.are)
    (All-from_recursion _ (map (λ p. p.1) l.met) (each-entry (λ p. p < length gs) l.met (λ k lt. (l.pending k (omega arith) (omega (arith, lt, l.long))).within)))

-- with the cut that there is
pub layer-met : (gs : List Gate) (heads read : List ℕ) (later : List (ℕ × ℕ)) (o : Outlook) (q : List ℕ) (layer : List (ℕ × ℕ)) (places : List ℕ) → IsCalled gs heads later o q → IsLayer o q layer → read ≡ heads
    → take (length layer) places ≡ map (λ p. slice_index read (position_of p.0 q)) layer → All (λ p. p < length gs) (take (length layer) places)
layer-met gs heads read later o q layer places h l same begin =
    let cut = cut-at heads gs l.many (omega (arith, l.within, ap length (left-of gs heads later o q h))) in
    begun-there gs heads cut.0 (length layer) (length layer) (length layer + most_extended) places heads
    (shown-begun gs heads read later o q layer l.many cut.0 places heads (length layer + most_extended) h l.is cut.1 same refl begin refl)

-- ---- the part behind it
part : (js : List ℕ) (i j : ℕ) → take (j - i) (drop i js) ≡ drop i (take j js)
part js i j = between_is js i j

pub shown-places : (gs : List Gate) (places : List ℕ) (first count : ℕ) → All (λ p. p < length gs) (take count places) → All (λ p. p < length gs) (take (count - first) (drop first places))
shown-places gs places first count h = subst (λ (js : List ℕ). All (λ p. p < length gs) js) (sym (part places first count)) (All-drop (λ p. p < length gs) first (take count places) h)

one-pair : (g : Gate) → length (gate_pairs g) ≤ 1
one-pair (H q) = omega arith
one-pair (X q) = omega arith
one-pair (P k q) = omega arith
one-pair (Cx c t) = omega arith

pairs-few : (gs : List Gate) (js : List ℕ) → length (pairs_at gs js) ≤ length js
pairs-few gs [] = omega arith
pairs-few gs (j ∷ js) = omega (arith, length-append (gate_pairs (get_or gs j (H 0))) (pairs_at gs js), one-pair (get_or gs j (H 0)), pairs-few gs js)

pub shown-room : (gs : List Gate) (places : List ℕ) (first count limit : ℕ) → count ≤ limit → limit ≡ first + most_extended → length (pairs_at gs (take (count - first) (drop first places))) ≤ most_extended
shown-room gs places first count limit le limited = omega (arith, pairs-few gs (take (count - first) (drop first places)), length-take (count - first) (drop first places), le, limited)

pair-within : (n : ℕ) (g : Gate) → IsFine n g → AllByRecursion (λ p. (p.0 < n) × (p.1 < n)) (gate_pairs g)
pair-within n (H q) h = tt
pair-within n (X q) h = tt
pair-within n (P k q) h = tt
pair-within n (Cx c t) h = ((h.0, h.1.0), tt)

append-each : (Q : ℕ × ℕ → Type 0) (xs ys : List (ℕ × ℕ)) → AllByRecursion Q xs → AllByRecursion Q ys → AllByRecursion Q (xs ++ ys)
append-each Q [] ys h k = k
append-each Q (x ∷ xs) ys h k = (h.0, append-each Q xs ys h.1 k)

pairs-within : (n : ℕ) (gs : List Gate) (js : List ℕ) → All (IsFine n) gs → AllByRecursion (λ p. (p.0 < n) × (p.1 < n)) (pairs_at gs js)
pairs-within n gs [] fine = tt
pairs-within n gs (j ∷ js) fine = append-each (λ p. (p.0 < n) × (p.1 < n)) (gate_pairs (get_or gs j (H 0))) (pairs_at gs js) (here (cases_lt j (length gs))) (pairs-within n gs js fine)
  where
    here : (j < length gs) ⊎ (length gs ≤ j) → AllByRecursion (λ p. (p.0 < n) × (p.1 < n)) (gate_pairs (get_or gs j (H 0)))
    here (inl lt) = pair-within n (get_or gs j (H 0)) (fine_at n gs j (get_or gs j (H 0)) fine (slice_get-get_or gs j (H 0) lt))
    here (inr le) = subst (λ (g : Gate). AllByRecursion (λ p. (p.0 < n) × (p.1 < n)) (gate_pairs g)) (sym (get_or_past gs j (H 0) le)) tt

pub shown-set : (gs : List Gate) (heads read : List ℕ) (later : List (ℕ × ℕ)) (o : Outlook) (q : List ℕ) (layer : List (ℕ × ℕ)) (begun reach places : List ℕ) (count limit : ℕ) (xs : List (ℕ × ℕ)) → IsCalled gs heads later o q
    → read ≡ heads → reach ≡ heads → take (length layer) begun ≡ map (λ p. slice_index read (position_of p.0 q)) layer → limit ≡ length layer + most_extended → count ≤ limit
    → ((hs : List ℕ) (e first : ℕ) → IsFollowing gs hs e first 0 (length layer) limit begun reach → HasFollowed gs hs e first count places)
    → xs ≡ placed q (pairs_at gs (take (count - length layer) (drop (length layer) places))) → IsWrittenSet o q layer xs
shown-set gs heads read later o q layer begun reach places count limit xs h same back begin limited few followed is = λ m le e.
    let left = left-of gs heads later o q h in
    let cut = cut-at heads gs m (omega (arith, le, ap length left)) in
    let f = followed heads cut.0 (length layer) (shown-begun gs heads read later o q layer m cut.0 begun reach limit h e cut.1 same back begin limited) in
    let js = drop (length layer) (take count places) in
    let shape : take (count - length layer) (drop (length layer) places) ≡ js = part places (length layer) count in (
      pairs_at gs js,
      subst (λ (ys : List Gate). IsAlong most_extended ys m (pairs_at gs js)) left (along-left gs heads later m cut.0 (length layer) count places h.lookout (omega (arith, le, ap length left)) cut.1 f),
      subst (λ (n : ℕ). AreWithin n (pairs_at gs js)) (wires-of gs heads later o q h) (All-from_recursion _ (pairs_at gs js) (pairs-within (length heads) gs js h.lookout.fine)),
      subst (λ ks. length (pairs_at gs ks) ≤ most_extended) shape (shown-room gs places (length layer) count limit few limited),
      is ∙ ap (λ ks. placed q (pairs_at gs ks)) shape,
    )
