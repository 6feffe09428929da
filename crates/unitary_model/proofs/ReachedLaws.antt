-- Steps of a route on all wires.
--   Reached-start        nothing is written
--   Reached-more         operations on the wires, and what is w^k times them on the qubits
--   Reached-swapped      a swap of two qubits
--   Reached-mod          turns count modulo 8
--   Reached-source       the same for operations of the same unitary
--   exchanged-comm       an exchange of two qubits, named either way
use Rattle.std.proofs.Common.{◌≡◌, ◌≢◌, ℕ, ◌+◌, ◌%◌, ◌<◌, ◌≤◌, Bool, true, false, cond, List, [], ◌∷◌, ◌++◌, length, map, slice_index, nat_eq, refl, sym, ◌∙◌, ap, subst, arith, append-nil}
use Rattle.std.proofs.Math.Path.{fun_ext}
use Rattle.std.proofs.lemmas.Bool.Decides.{nat_tests}
use Rattle.std.proofs.lemmas.List.{get_or-map}
use Rattle.unitary_model.specs.declared.Op.{Op}
use Rattle.unitary_model.specs.declared.Op.TheVariants.{U, Cx}
use Rattle.unitary_model.specs.Ring.{Ring, turn, double}
use Rattle.unitary_model.specs.Operations.{weight, WiresBelow}
use Rattle.unitary_model.specs.Acts.{Bits, applied, put, Turns, place}
use Rattle.unitary_model.specs.Placement.{exchanged, IsPlacement}
use Rattle.unitary_model.specs.Realised.{Placing, PlacedBy, carried, Realised}
use Rattle.unitary_model.proofs.RingLaws.{double-swap, double-turn, double_cancel}
use Rattle.unitary_model.proofs.AmplitudeLaws.{turn_mod}
use Rattle.unitary_model.proofs.PlacementLaws.{exchanged-twice, placing, from_low, from_high}
use Rattle.unitary_model.proofs.Slide.{bit_put, bit_off}
use Rattle.unitary_model.proofs.RealisedLaws.{Realised_then, Realised_emit, Realised_turns, applied_cx, flipped_by}
use Rattle.unitary_model.specs.Reached.{Reached}

-- ---- an exchange of two qubits
pub exchanged-comm : (a b : ℕ) → exchanged a b ≡ exchanged b a
unfolding exchanged
exchanged-comm a b = fun_ext (λ j. at a b j)
  where
    at : (a b j : ℕ) → cond (nat_eq j a) b (cond (nat_eq j b) a j) ≡ cond (nat_eq j b) a (cond (nat_eq j a) b j)
    at a b j = grind (arith, nat_tests)

exchanged-high : (size a b j : ℕ) → a < size → b < size → size ≤ j → exchanged a b j ≡ j
unfolding exchanged
exchanged-high size a b j ha hb le = grind (arith, nat_tests)

-- three CNOTs exchange two bits
applied_exchange : (a b : ℕ) → a ≢ b → (f : Bits → Ring) (x : Bits) → applied (Cx a b ∷ Cx b a ∷ Cx a b ∷ []) f x ≡ f (λ j. x (exchanged a b j))
unfolding exchanged
applied_exchange a b h f x =
    let x1 : Bits = put x b (flipped_by (x b) (x a)) in
    let x2 : Bits = put x1 a (flipped_by (x1 a) (x1 b)) in
    let at_a : x1 a ≡ x a = bit_off x b a (flipped_by (x b) (x a)) h in
    let at_b : x1 b ≡ flipped_by (x b) (x a) = bit_put x b (flipped_by (x b) (x a)) in
    let at_a2 : x2 a ≡ x b = bit_put x1 a (flipped_by (x1 a) (x1 b)) ∙ (λ i. flipped_by (at_a i) (at_b i)) ∙ first (x a) (x b) in
    let at_b2 : x2 b ≡ flipped_by (x b) (x a) = bit_off x1 a b (flipped_by (x1 a) (x1 b)) (λ e. h (sym e)) ∙ at_b in
    applied_cx a b (Cx b a ∷ Cx a b ∷ []) f x ∙ applied_cx b a (Cx a b ∷ []) f x1 ∙ applied_cx a b [] f x2
    ∙ ap f ((λ i. put x2 b (flipped_by (at_b2 i) (at_a2 i))) ∙ ap (put x2 b) (second (x a) (x b))
    ∙ fun_ext (λ j. (λ i. cond (nat_eq j b) (x a) (cond (nat_eq j a) (inner i) (x1 j))) ∙ settled j))
  where
    first : (u v : Bool) → flipped_by u (flipped_by v u) ≡ v
    first true true = refl
    first true false = refl
    first false true = refl
    first false false = refl

    second : (u v : Bool) → flipped_by (flipped_by v u) v ≡ u
    second true true = refl
    second true false = refl
    second false true = refl
    second false false = refl

    inner : flipped_by (put x b (flipped_by (x b) (x a)) a) (put x b (flipped_by (x b) (x a)) b) ≡ x b
    inner = (λ i. flipped_by (bit_off x b a (flipped_by (x b) (x a)) h i) (bit_put x b (flipped_by (x b) (x a)) i)) ∙ first (x a) (x b)

    settled : (j : ℕ) → cond (nat_eq j b) (x a) (cond (nat_eq j a) (x b) (cond (nat_eq j b) (flipped_by (x b) (x a)) (x j))) ≡ x (cond (nat_eq j a) b (cond (nat_eq j b) a j))
    settled j = go (nat_eq j b) (nat_eq j a) refl refl
      where
        clash : nat_eq j b ≡ true → nat_eq j a ≡ true → ⊥
        clash e g = h (grind (arith, nat_tests))

        go : (s t : Bool) → nat_eq j b ≡ s → nat_eq j a ≡ t → cond s (x a) (cond t (x b) (cond s (flipped_by (x b) (x a)) (x j))) ≡ x (cond t b (cond s a j))
        go true true e g = absurd (clash e g)
        go true false e g = refl
        go false true e g = refl
        go false false e g = refl

-- the qubits a and b exchanged
swapped : Placing → ℕ → ℕ → Placing
swapped P a b = record {
  to = λ i. exchanged a b (P.to i);
  from = λ j. P.from (exchanged a b j);
  from_to = λ i. ap P.from (exchanged-twice a b (P.to i)) ∙ P.from_to i;
  to_from = λ j. ap (exchanged a b) (P.to_from (exchanged a b j)) ∙ exchanged-twice a b j;
}

swapped-placed : (size : ℕ) (q : List ℕ) (Q : Placing) (a b : ℕ) → length q ≡ size → a < size → b < size → PlacedBy size q Q → PlacedBy size (map (exchanged a b) q) (swapped Q a b)
unfolding swapped
swapped-placed size q Q a b len ha hb h = record {
  low = λ i lt. ap (exchanged a b) (h.low i lt) ∙ sym (get_or-map (exchanged a b) q i 0 0 (omega (arith, lt, len)));
  high = λ i le. ap (exchanged a b) (h.high i le) ∙ exchanged-high size a b i ha hb le;
}

Realised_exchange : (P : Placing) (a b : ℕ) → a ≢ b → Realised [] (Cx a b ∷ Cx b a ∷ Cx a b ∷ []) P (swapped P a b) 0
unfolding swapped
Realised_exchange P a b h = record { law = λ f x. applied_exchange a b h f (carried P x) }

-- ---- steps
same_turn : (S R : List Op) (P Q : Placing) (j k : ℕ) → j ≡ k → Realised S R P Q j → Realised S R P Q k
same_turn S R P Q j k e h = subst (λ (n : ℕ). Realised S R P Q n) e h

pub Reached-start : (size : ℕ) (p : List ℕ) → IsPlacement size p → Reached size p [] [] p 0
Reached-start size p h = record {
  from = P;
  to = P;
  starts = placed;
  ends = placed;
  realised = record { law = λ f x. refl };
}
  where
    P : Placing
    P = placing size p h

    placed : PlacedBy size p P
    placed = record {
      low = λ i lt. ap P.to (sym (from_low size p h (slice_index p i) (h.within i lt) ∙ h.once i lt)) ∙ P.to_from (slice_index p i);
      high = λ i le. ap P.to (sym (from_high size p h i le)) ∙ P.to_from i;
    }

-- what vs are to us on the qubits, they add to what was reached
pub Reached-more : (size : ℕ) (first : List ℕ) (S R : List Op) (q : List ℕ) (k : ℕ) (u : Op) (vs : List Op) (j : ℕ) → Reached size first S R q k → WiresBelow size (u ∷ [])
    → Turns j (place (slice_index q) u ∷ []) vs → Reached size first (S ++ u ∷ []) (R ++ vs) q (k + j)
Reached-more size first S R q k u vs j r below h = record {
  from = r.from;
  to = r.to;
  starts = r.starts;
  ends = r.ends;
  realised = same_turn (S ++ u ∷ []) (R ++ vs) r.from r.to (k + (0 + j)) (k + j) (omega arith)
      (Realised_then S (u ∷ []) R vs r.from r.to r.to k (0 + j) r.realised
      (Realised_turns (u ∷ []) (place r.to.to u ∷ []) vs r.to r.to 0 j (Realised_emit r.to (u ∷ []))
      (subst (λ (v : Op). Turns j (v ∷ []) vs) (placed u below) h)));
}
  where
    placed : (u : Op) → WiresBelow size (u ∷ []) → place (slice_index q) u ≡ place r.to.to u
    placed (U a b c w) l = λ z. U a b c (sym (r.ends.low w l.0) z)
    placed (Cx c t) l = λ z. Cx (sym (r.ends.low c l.0) z) (sym (r.ends.low t l.1.0) z)

pub Reached-swapped : (size : ℕ) (first : List ℕ) (S R : List Op) (q : List ℕ) (k a b : ℕ) (vs : List Op) (j : ℕ) → Reached size first S R q k → length q ≡ size → a < size → b < size → a ≢ b
    → Turns j (Cx a b ∷ Cx b a ∷ Cx a b ∷ []) vs → Reached size first S (R ++ vs) (map (exchanged a b) q) (k + j)
Reached-swapped size first S R q k a b vs j r len ha hb ne h = record {
  from = r.from;
  to = swapped r.to a b;
  starts = r.starts;
  ends = swapped-placed size q r.to a b len ha hb r.ends;
  realised = same_turn S (R ++ vs) r.from (swapped r.to a b) (k + (0 + j)) (k + j) (omega arith)
      (subst (λ (T : List Op). Realised T (R ++ vs) r.from (swapped r.to a b) (k + (0 + j))) (append-nil S)
      (Realised_then S [] R vs r.from r.to (swapped r.to a b) k (0 + j) r.realised
      (Realised_turns [] (Cx a b ∷ Cx b a ∷ Cx a b ∷ []) vs r.to (swapped r.to a b) 0 j (Realised_exchange r.to a b ne) h)));
}

pub Reached-mod : (size : ℕ) (first : List ℕ) (S R : List Op) (q : List ℕ) (k : ℕ) → k < 16 → Reached size first S R q k → Reached size first S R q (k % 8)
Reached-mod size first S R q k lt r = record {
  from = r.from;
  to = r.to;
  starts = r.starts;
  ends = r.ends;
  realised = record { law = λ f x. r.realised.law f x ∙ sym (turn_mod k (double (weight R) (applied S (λ z. f (carried r.to z)) x)) lt) };
}

pub Reached-source : (size : ℕ) (first : List ℕ) (T S R : List Op) (q : List ℕ) (k : ℕ) → Turns 0 T S → Reached size first S R q k → Reached size first T R q k
Reached-source size first T S R q k h r = record {
  from = r.from;
  to = r.to;
  starts = r.starts;
  ends = r.ends;
  realised = record {
    law = λ f x.
        let g : Bits → Ring = λ z. f (carried r.to z) in
        double_cancel (weight S) _ _ (
        double-swap (weight S) (weight T) (applied R f (carried r.from x))
        ∙ ap (double (weight T)) (r.realised.law f x)
        ∙ double-turn (weight T) k (double (weight R) (applied S g x))
        ∙ ap (turn k) (double-swap (weight T) (weight R) (applied S g x) ∙ ap (double (weight R)) (h.law g x) ∙ double-swap (weight R) (weight S) (applied T g x))
        ∙ sym (double-turn (weight S) k (double (weight R) (applied T g x))));
  };
}
