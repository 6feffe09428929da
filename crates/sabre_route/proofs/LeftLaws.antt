-- The gates that are left, in a linked circuit.
--   first-one                a gate that is first on its wires stands at one place
--   IsThere, there-first     such a gate, by its slot, which is the head of its first wire;  there-second: it is on its second
--   heads-taken              it is taken away: the heads that are left
--   heads-put                the heads of some last gates, and one gate more
use Rattle.std.proofs.Common.{◌≡◌, ◌≢◌, ℕ, zero, suc, ◌+◌, ◌<◌, ◌≤◌, ◌⊎◌, inl, inr, ◌==◌, ◌||◌, Bool, not, true, false, List, [], ◌∷◌, All, Option, None, Some, MatchOption, get_or, set, length, remove, slice_get, take, refl, sym, ◌∙◌, ap, subst, arith, length-set}
use Rattle.std.specs.List.{list_any}
use Rattle.std.proofs.lemmas.Bool.{both_ways, cases_lt, eq-eqb, eqb-false, eqb-true, ne_eqb}
use Rattle.std.proofs.lemmas.Grind.{get_or-set_at}
use Rattle.std.proofs.lemmas.List.{get_or-set_other}
use Rattle.std.proofs.lemmas.List.Edits.{length-remove}
use Rattle.std.proofs.lemmas.List.Elements.{recursion_from_All}
use Rattle.std.proofs.lemmas.Option.{get_or_from_slice_get, slice_get_read, slice_get_within}
use Rattle.circuit_list.specs.Body.{Body}
use Rattle.circuit_list.specs.declared.Gate.{Gate}
use Rattle.circuit_list.specs.declared.Gate.TheVariants.{H, X, P, Cx}
use Rattle.circuit_list.specs.Gates.{first_wire, is_on, second_wire, IsFine}
use Rattle.circuit_list.specs.Slots.{IsLive, IsNextOn, NoneBehind, is_on_at, is_on_some, place_of}
use Rattle.sabre_route.specs.Left.{AreHeadsFrom, IsFirstGate, IsFirstOn, IsHead, IsWithout, NoneOn}
use Rattle.sabre_route.specs.Search.{is_free, shares}
use Rattle.sabre_route.proofs.BoundLaws.{fine-place}
use Rattle.sabre_route.proofs.NextLaws.{first_below, second_below}

-- ---- lists
take-at : (gs : List Gate) (j k : ℕ) → k < j → slice_get (take j gs) k ≡ slice_get gs k
take-at gs zero k lt = absurd (omega (arith, lt))
take-at [] (suc j) k lt = refl
take-at (g ∷ gs) (suc j) zero lt = refl
take-at (g ∷ gs) (suc j) (suc k) lt = take-at gs j k (omega (arith, lt))

remove-before : (gs : List Gate) (i k : ℕ) → k < i → slice_get (remove gs i) k ≡ slice_get gs k
remove-before gs zero k lt = absurd (omega (arith, lt))
remove-before [] (suc i) k lt = refl
remove-before (g ∷ gs) (suc i) zero lt = refl
remove-before (g ∷ gs) (suc i) (suc k) lt = remove-before gs i k (omega (arith, lt))

remove-behind : (gs : List Gate) (i k : ℕ) → i ≤ k → slice_get (remove gs i) k ≡ slice_get gs (suc k)
remove-behind [] zero k le = refl
remove-behind [] (suc i) k le = refl
remove-behind (g ∷ gs) zero k le = refl
remove-behind (g ∷ gs) (suc i) zero le = absurd (omega (arith, le))
remove-behind (g ∷ gs) (suc i) (suc k) le = remove-behind gs i k (omega (arith, le))

-- ---- the wires of a gate
or-true : (b : Bool) → (b || true) ≡ true
or-true true = refl
or-true false = refl

gate-on : (g : Gate) → (is_on (first_wire g) g ≡ true) × (is_on (second_wire g) g ≡ true)
gate-on (H q) = (eq-eqb q q refl, eq-eqb q q refl)
gate-on (X q) = (eq-eqb q q refl, eq-eqb q q refl)
gate-on (P k q) = (eq-eqb q q refl, eq-eqb q q refl)
gate-on (Cx c t) = (ap (λ b. b || (c == t)) (eq-eqb c c refl), ap (λ b. (t == c) || b) (eq-eqb t t refl) ∙ or-true (t == c))

only-on : (w : ℕ) (g : Gate) → w ≢ first_wire g → w ≢ second_wire g → is_on w g ≡ false
only-on w (H q) n m = ne_eqb w q n
only-on w (X q) n m = ne_eqb w q n
only-on w (P k q) n m = ne_eqb w q n
only-on w (Cx c t) n m = λ z. ne_eqb w c n z || ne_eqb w t m z

at-on : (w : ℕ) (gs : List Gate) (j : ℕ) (g : Gate) (b : Bool) → slice_get gs j ≡ Some g → is_on w g ≡ b → is_on_at w gs j ≡ b
at-on w gs j g b e h = ap (is_on_some w) e ∙ h

-- ---- a gate that is first on its wires
parts : (a b c : Bool) → not ((a || b) || c) ≡ true → (a ≡ false) × (b ≡ false) × (not c ≡ true)
parts true b c h = absurd (cc)
parts false true c h = absurd (cc)
parts false false c h = (refl, refl, h)

free-none : (g : Gate) (xs : List Gate) → is_free xs g ≡ true → (k : ℕ) → (is_on_at (first_wire g) xs k ≡ false) × (is_on_at (second_wire g) xs k ≡ false)
unfolding is_free
free-none g [] h k = (refl, refl)
free-none g (x ∷ xs) h zero = let p = parts (is_on (first_wire g) x) (is_on (second_wire g) x) (list_any (shares g) xs) h in (p.0, p.1)
free-none g (x ∷ xs) h (suc k) = free-none g xs (parts (is_on (first_wire g) x) (is_on (second_wire g) x) (list_any (shares g) xs) h).2 k

none-first : (gs : List Gate) (j : ℕ) (g : Gate) → IsFirstGate gs j g → NoneOn (first_wire g) gs 0 j × NoneOn (second_wire g) gs 0 j
none-first gs j g h = (
  (λ k ge lt. ap (is_on_some (first_wire g)) (sym (take-at gs j k lt)) ∙ (free-none g (take j gs) h.first k).0),
  (λ k ge lt. ap (is_on_some (second_wire g)) (sym (take-at gs j k lt)) ∙ (free-none g (take j gs) h.first k).1),
)

same-first : (w : ℕ) (gs : List Gate) (i j : ℕ) → is_on_at w gs i ≡ true → NoneOn w gs 0 i → is_on_at w gs j ≡ true → NoneOn w gs 0 j → i ≡ j
same-first w gs i j on none at off = go (cases_lt i j) (cases_lt j i)
  where
    go : (i < j) ⊎ (j ≤ i) → (j < i) ⊎ (i ≤ j) → i ≡ j
    go (inl lt) o = absurd (both_ways (is_on_at w gs i) (off i (omega arith) lt) on)
    go (inr le) (inl lt) = absurd (both_ways (is_on_at w gs j) (none j (omega arith) lt) at)
    go (inr le) (inr ge) = omega (arith, le, ge)

pub first-one : (gs : List Gate) (i j : ℕ) (g : Gate) → IsFirstGate gs i g → IsFirstGate gs j g → i ≡ j
first-one gs i j g h k =
    same-first (first_wire g) gs i j (at-on (first_wire g) gs i g true h.there (gate-on g).0) (none-first gs i g h).0
    (at-on (first_wire g) gs j g true k.there (gate-on g).0) (none-first gs j g k).0

-- the head of its first wire is its slot
pub record IsThere (b : Body) (s : ℕ) (g : Gate) : Type 0 where
  pub live : IsLive b s
  pub first : IsFirstGate b.gates (place_of s b.slots) g
  pub first_below : first_wire g < b.wires
  pub second_below : second_wire g < b.wires

pub there-first : (b : Body) (heads : List (Option ℕ)) (gs : List Gate) (s v : ℕ) (g : Gate) (o : Option ℕ) → AreHeadsFrom 0 b heads → All (IsFine b.wires) b.gates → b.gates ≡ gs
    → (j : ℕ) × IsFirstGate gs j g → v ≡ first_wire g → o ≡ get_or heads v o → o ≡ Some s → IsThere b s g
there-first b heads gs s v g o h fine same (j, first) at read is =
    let k : IsFirstGate b.gates j g = subst (λ (xs : List Gate). IsFirstGate xs j g) (sym same) first in
    let whole : IsFine b.wires g = fine-place b.wires b.gates j g (recursion_from_All (IsFine b.wires) b.gates fine) k.there in
    let low : first_wire g < b.wires = first_below b.wires g whole in
    let got : slice_get heads v ≡ Some o = slice_get_read heads (length heads) v o refl (omega (arith, at, low, h.long)) read in
    let it : get_or heads (first_wire g) None ≡ Some s = ap (λ n. get_or heads n None) (sym at) ∙ get_or_from_slice_get heads v o None got ∙ is in
    let f : IsFirstOn 0 (first_wire g) b s = subst (λ (p : Option ℕ). IsHead 0 (first_wire g) b p) it (h.each (first_wire g) low) in
    let here : j ≡ place_of s b.slots = same-first (first_wire g) b.gates j (place_of s b.slots)
    (at-on (first_wire g) b.gates j g true k.there (gate-on g).0) (none-first b.gates j g k).0 f.on f.none in
    record {
      live = f.live;
      first = subst (λ (i : ℕ). IsFirstGate b.gates i g) here k;
      first_below = low;
      second_below = second_below b.wires g whole;
    }

pub there-second : (b : Body) (s w : ℕ) (g : Gate) → IsThere b s g → w ≡ second_wire g → is_on_at w b.gates (place_of s b.slots) ≡ true
there-second b s w g h at = at-on w b.gates (place_of s b.slots) g true h.first.there (ap (λ n. is_on n g) at ∙ (gate-on g).1)

-- ---- a gate is taken away
none-removed : (w : ℕ) (gs : List Gate) (i p : ℕ) → ((k : ℕ) → k < p → k < i → is_on_at w gs k ≡ false) → ((k : ℕ) → i ≤ k → k < p → is_on_at w gs (suc k) ≡ false)
    → NoneOn w (remove gs i) 0 p
none-removed w gs i p one two k ge lt = at (cases_lt k i)
  where
    at : (k < i) ⊎ (i ≤ k) → is_on_at w (remove gs i) k ≡ false
    at (inl l) = ap (is_on_some w) (remove-before gs i k l) ∙ one k lt l
    at (inr g) = ap (is_on_some w) (remove-behind gs i k g) ∙ two k g lt

-- what is on a wire without the gate, in the list as it was
on-behind : (w : ℕ) (b u : Body) (i k m : ℕ) → u.gates ≡ remove b.gates i → i < m → k + 1 ≡ m → is_on_at w u.gates k ≡ is_on_at w b.gates m
on-behind w b u i k m e lt one =
    let next : suc k ≡ m = omega (arith, one) in
    ap (λ (gs : List Gate). is_on_at w gs k) e ∙ ap (is_on_some w) (remove-behind b.gates i k (omega (arith, lt, one))) ∙ ap (is_on_at w b.gates) next

none-moved : (w : ℕ) (u : Body) (gs : List Gate) (p : ℕ) → u.gates ≡ gs → NoneOn w gs 0 p → NoneOn w u.gates 0 p
none-moved w u gs p e h k ge lt = ap (λ (xs : List Gate). is_on_at w xs k) e ∙ h k ge lt

length-without : (b u : Body) (i : ℕ) → i < length b.gates → IsWithout b i u → length u.gates + 1 ≡ length b.gates
length-without b u i lt is = omega (arith, ap length is.gates, length-remove b.gates i lt)

abbrev pub IsNext : ℕ → Body → ℕ → Option ℕ → Type 0
IsNext w b i h = MatchOption h (NoneBehind w b.gates i) (λ t. IsLive b t × IsNextOn w b.gates i (place_of t b.slots))

head-next : (w : ℕ) (b u : Body) (i : ℕ) (h : Option ℕ) → i < length b.gates → NoneOn w b.gates 0 i → IsWithout b i u → IsNext w b i h → IsHead 0 w u h
head-next w b u i None lt none is next =
    none-moved w u (remove b.gates i) (length u.gates) is.gates
    (none-removed w b.gates i (length u.gates) (λ k l m. none k (omega arith) m) (λ k ge l. next (suc k) (omega (arith, ge))))
head-next w b u i (Some t) lt none is (live, on) =
    let p = place_of t b.slots in
    let e : place_of t u.slots + 1 ≡ p = is.later t on.behind in
    record {
      live = omega (arith, e, live, length-without b u i lt is);
      from = omega arith;
      on = on-behind w b u i (place_of t u.slots) p is.gates on.behind e ∙ on.on;
      none = none-moved w u (remove b.gates i) (place_of t u.slots) is.gates
          (none-removed w b.gates i (place_of t u.slots) (λ k l m. none k (omega arith) m) (λ k ge l. on.none (suc k) (omega (arith, ge)) (omega (arith, l, e))));
    }

head-other : (w : ℕ) (b u : Body) (i : ℕ) (h : Option ℕ) → i < length b.gates → is_on_at w b.gates i ≡ false → IsWithout b i u → IsHead 0 w b h → IsHead 0 w u h
head-other w b u i None lt off is head =
    none-moved w u (remove b.gates i) (length u.gates) is.gates
    (none-removed w b.gates i (length u.gates) (λ k l m. head k (omega arith) (omega (arith, m, lt)))
    (λ k ge l. head (suc k) (omega arith) (omega (arith, l, length-without b u i lt is))))
head-other w b u i (Some s) lt off is head = at (cases_lt (place_of s b.slots) i)
  where
    before : place_of s b.slots < i → IsFirstOn 0 w u s
    before l =
        let e : place_of s u.slots ≡ place_of s b.slots = is.earlier s l in
        record {
          live = omega (arith, e, l, lt, length-without b u i lt is);
          from = omega arith;
          on = ap (λ (gs : List Gate). is_on_at w gs (place_of s u.slots)) is.gates
              ∙ ap (is_on_some w) (remove-before b.gates i (place_of s u.slots) (omega (arith, e, l))) ∙ ap (is_on_at w b.gates) e ∙ head.on;
          none = none-moved w u (remove b.gates i) (place_of s u.slots) is.gates
              (none-removed w b.gates i (place_of s u.slots) (λ k m n. head.none k (omega arith) (omega (arith, m, e))) (λ k ge m. absurd (omega (arith, ge, m, e, l))));
        }

    behind : i < place_of s b.slots → IsFirstOn 0 w u s
    behind l =
        let e : place_of s u.slots + 1 ≡ place_of s b.slots = is.later s l in
        record {
          live = omega (arith, e, head.live, length-without b u i lt is);
          from = omega arith;
          on = on-behind w b u i (place_of s u.slots) (place_of s b.slots) is.gates l e ∙ head.on;
          none = none-moved w u (remove b.gates i) (place_of s u.slots) is.gates
              (none-removed w b.gates i (place_of s u.slots) (λ k m n. head.none k (omega arith) (omega (arith, n, l))) (λ k ge m. head.none (suc k) (omega arith) (omega (arith, m, e))));
        }

    at : (place_of s b.slots < i) ⊎ (i ≤ place_of s b.slots) → IsFirstOn 0 w u s
    at (inl l) = before l
    at (inr g) = past (cases_lt i (place_of s b.slots))
      where
        past : (i < place_of s b.slots) ⊎ (place_of s b.slots ≤ i) → IsFirstOn 0 w u s
        past (inl l) = behind l
        past (inr le) = let here : place_of s b.slots ≡ i = omega (arith, le, g) in absurd (both_ways (is_on_at w b.gates i) off (ap (is_on_at w b.gates) (sym here) ∙ head.on))

-- ---- the heads of two wires are put
heads-set : (Q : ℕ → Option ℕ → Type 0) (heads : List (Option ℕ)) (f s : ℕ) (x y : Option ℕ) → ((w : ℕ) → w ≡ f → Q w x) → ((w : ℕ) → w ≡ s → Q w y)
    → ((w : ℕ) → w < length heads → w ≢ f → w ≢ s → Q w (get_or heads w None)) → (w : ℕ) → w < length heads → Q w (get_or (set (set heads f x) s y) w None)
heads-set Q heads f s x y one two other w lt = at (w == f) (w == s) refl refl
  where
    at : (b c : Bool) → (w == f) ≡ b → (w == s) ≡ c → Q w (get_or (set (set heads f x) s y) w None)
    at b true d e =
        let here : w ≡ s = eqb-true w s e in
        subst (Q w) (sym (get_or-set_at (set heads f x) s w y None here (omega (arith, here, lt, length-set heads f x)))) (two w here)
    at true false d e =
        let here : w ≡ f = eqb-true w f d in
        subst (Q w) (sym (get_or-set_other (set heads f x) s w y None (eqb-false w s e) ∙ get_or-set_at heads f w x None here (omega (arith, here, lt)))) (one w here)
    at false false d e =
        subst (Q w) (sym (get_or-set_other (set heads f x) s w y None (eqb-false w s e) ∙ get_or-set_other heads f w x None (eqb-false w f d)))
        (other w lt (eqb-false w f d) (eqb-false w s e))

long-set : (heads : List (Option ℕ)) (f s n : ℕ) (x y : Option ℕ) → length heads ≡ n → length (set (set heads f x) s y) ≡ n
long-set heads f s n x y e = omega (arith, e, length-set heads f x, length-set (set heads f x) s y)

pub heads-taken : (b u : Body) (heads : List (Option ℕ)) (i v w : ℕ) (g : Gate) (x y : Option ℕ) → v ≡ first_wire g → w ≡ second_wire g → AreHeadsFrom 0 b heads → IsFirstGate b.gates i g → IsWithout b i u
    → IsNext v b i x → IsNext w b i y → AreHeadsFrom 0 u (set (set heads v x) w y)
heads-taken b u heads i v w g x y first second h k is one two =
    let lt : i < length b.gates = slice_get_within b.gates i g k.there in
    let none = none-first b.gates i g k in
    record {
      long = long-set heads v w u.wires x y (h.long ∙ sym is.wires);
      each = λ q less. heads-set (λ q o. IsHead 0 q u o) heads v w x y
          (λ q e. subst (λ (n : ℕ). IsHead 0 n u x) (sym e) (head-next v b u i x lt (subst (λ (n : ℕ). NoneOn n b.gates 0 i) (sym first) none.0) is one))
          (λ q e. subst (λ (n : ℕ). IsHead 0 n u y) (sym e) (head-next w b u i y lt (subst (λ (n : ℕ). NoneOn n b.gates 0 i) (sym second) none.1) is two))
          (λ q l n m. head-other q b u i (get_or heads q None) lt (at-on q b.gates i g false k.there (only-on q g (λ e. n (e ∙ sym first)) (λ e. m (e ∙ sym second)))) is
          (h.each q (omega (arith, l, h.long))))
          q (omega (arith, less, is.wires, h.long));
    }

-- ---- the heads of some last gates
-- one gate more, which isn't on the wire
none-more : (w : ℕ) (gs : List Gate) (p q m : ℕ) → q ≡ p + 1 → is_on_at w gs p ≡ false → NoneOn w gs q m → NoneOn w gs p m
none-more w gs p q m e off none k ge lt = at (cases_lt p k)
  where
    at : (p < k) ⊎ (k ≤ p) → is_on_at w gs k ≡ false
    at (inl l) = none k (omega (arith, l, e)) lt
    at (inr le) = let here : k ≡ p = omega (arith, le, ge) in ap (is_on_at w gs) here ∙ off

head-more : (w : ℕ) (b : Body) (p q : ℕ) (h : Option ℕ) → q ≡ p + 1 → is_on_at w b.gates p ≡ false → IsHead q w b h → IsHead p w b h
head-more w b p q None e off h = none-more w b.gates p q (length b.gates) e off h
head-more w b p q (Some s) e off h = record {
  live = h.live;
  from = omega (arith, e, h.from);
  on = h.on;
  none = none-more w b.gates p q (place_of s b.slots) e off h.none;
}

pub heads-put : (b : Body) (heads : List (Option ℕ)) (p q v w : ℕ) (g : Gate) (s : ℕ) → q ≡ p + 1 → v ≡ first_wire g → w ≡ second_wire g → AreHeadsFrom q b heads
    → slice_get b.gates (place_of s b.slots) ≡ Some g → place_of s b.slots ≡ p → AreHeadsFrom p b (set (set heads v (Some s)) w (Some s))
heads-put b heads p q v w g s e first second h there place = record {
  long = long-set heads v w b.wires (Some s) (Some s) h.long;
  each = λ n less. heads-set (λ n o. IsHead p n b o) heads v w (Some s) (Some s)
      (λ n same. here n (ap (λ m. is_on m g) (same ∙ first) ∙ (gate-on g).0)) (λ n same. here n (ap (λ m. is_on m g) (same ∙ second) ∙ (gate-on g).1))
      (λ n l one two. head-more n b p q (get_or heads n None) e (at-on n b.gates p g false at (only-on n g (λ f. one (f ∙ sym first)) (λ f. two (f ∙ sym second)))) (h.each n (omega (arith, l, h.long))))
      n (omega (arith, less, h.long));
}
  where
    at : slice_get b.gates p ≡ Some g
    at = ap (slice_get b.gates) (sym place) ∙ there

    here : (n : ℕ) → is_on n g ≡ true → IsFirstOn p n b s
    here n on = record {
      live = slice_get_within b.gates (place_of s b.slots) g there;
      from = omega (arith, place);
      on = at-on n b.gates (place_of s b.slots) g true there on;
      none = λ k ge lt. absurd (omega (arith, ge, lt, place));
    }
