-- A U is a phase, a U with one angle, and a phase; and phases add up.
--     share-turn, turn-share, share-double    turns and doublings go through a share
--     Turns_parts         U(a,b,c) is P(c), U(a,0,0), P(b)
--     Turns_phases        P(j), P(k) is P(j + k)
use Rattle.std.proofs.Common.{◌≡◌, ℕ, ◌+◌, Bool, true, false, cond, [], ◌∷◌, refl, sym, ◌∙◌, ap, arith}
use Rattle.std.proofs.Math.Nat.{add_comm}
use Rattle.unitary_model.specs.declared.Op.TheVariants.{U}
use Rattle.unitary_model.specs.Ring.{Ring, plus, turn1, turn, double}
use Rattle.unitary_model.specs.Acts.{share, Bits, put, applied, Turns}
use Rattle.unitary_model.proofs.RingLaws.{turn-plus, turn-turn, double-plus, double-turn}
use Rattle.unitary_model.proofs.Slide.{bit_put, share-plus}
use Rattle.unitary_model.proofs.GateActs.{applied_phase, spins-turn}

-- w^k (1 + w^l)
share-form : (k l : ℕ) (v : Ring) → share plus turn1 k l v ≡ turn k (plus v (turn l v))
share-form k l v = spins-turn k _ ∙ ap (λ u. turn k (plus v u)) (spins-turn l v)

turn-share : (j k l : ℕ) (v : Ring) → turn j (share plus turn1 k l v) ≡ share plus turn1 (j + k) l v
turn-share j k l v = ap (turn j) (share-form k l v) ∙ turn-turn j k _ ∙ sym (share-form (j + k) l v)

share-turn : (j k l : ℕ) (v : Ring) → share plus turn1 k l (turn j v) ≡ share plus turn1 (j + k) l v
share-turn j k l v =
    share-form k l (turn j v)
    ∙ ap (λ u. turn k (plus (turn j v) u)) (turn-turn l j v ∙ ap (λ n. turn n v) (add_comm l j) ∙ sym (turn-turn j l v))
    ∙ ap (turn k) (sym (turn-plus j v (turn l v)))
    ∙ turn-turn k j _
    ∙ ap (λ n. turn n (plus v (turn l v))) (add_comm k j)
    ∙ sym (share-form (j + k) l v)

share-double : (k l : ℕ) (v : Ring) → share plus turn1 k l (double 1 v) ≡ double 1 (share plus turn1 k l v)
share-double k l v = share-plus k l v v

share-double_turn : (j k l : ℕ) (v : Ring) → share plus turn1 k l (double 1 (turn j v)) ≡ double 1 (share plus turn1 (j + k) l v)
share-double_turn j k l v = share-double k l (turn j v) ∙ ap (double 1) (share-turn j k l v)

-- ---- the parts of a U
pub Turns_parts : (a b c q : ℕ) → Turns 0 (U a b c q ∷ []) (U 0 0 c q ∷ U a 0 0 q ∷ U 0 0 b q ∷ [])
Turns_parts a b c q = record {
  law = λ f x.
      ap (double 1) (applied_phase c q (U a 0 0 q ∷ U 0 0 b q ∷ []) f x
      ∙ ap (λ u. double 1 (turn (cond (x q) c 0) u)) (λ i. cond (x q)
      (plus (share plus turn1 6 (a + 4) (low f x i)) (share plus turn1 0 a (high f x i)))
      (plus (share plus turn1 0 a (low f x i)) (share plus turn1 2 (a + 4) (high f x i)))))
      ∙ both (f (put x q false)) (f (put x q true)) (x q);
}
  where
    low : (f : Bits → Ring) (x : Bits) → applied (U 0 0 b q ∷ []) f (put x q false) ≡ double 1 (f (put x q false))
    low f x = applied_phase b q [] f (put x q false) ∙ ap (λ t. double 1 (turn (cond t b 0) (f (put x q false)))) (bit_put x q false)

    high : (f : Bits → Ring) (x : Bits) → applied (U 0 0 b q ∷ []) f (put x q true) ≡ double 1 (turn b (f (put x q true)))
    high f x = applied_phase b q [] f (put x q true) ∙ ap (λ t. double 1 (turn (cond t b 0) (f (put x q true)))) (bit_put x q true)

    sums : c + (b + 0) ≡ b + c
    sums = omega arith

    both : (v u : Ring) (t : Bool) →
        double 1 (double 1 (turn (cond t c 0) (cond t
        (plus (share plus turn1 6 (a + 4) (double 1 v)) (share plus turn1 0 a (double 1 (turn b u))))
        (plus (share plus turn1 0 a (double 1 v)) (share plus turn1 2 (a + 4) (double 1 (turn b u)))))))
        ≡ double 3 (cond t
        (plus (share plus turn1 (c + 6) (a + 4) v) (share plus turn1 (b + c) a u))
        (plus (share plus turn1 0 a v) (share plus turn1 (b + 2) (a + 4) u)))
    both v u true = ap (λ z. double 1 (double 1 z)) (
        ap (turn c) ((λ i. plus (share-double 6 (a + 4) v i) (share-double_turn b 0 a u i))
        ∙ sym (double-plus 1 (share plus turn1 6 (a + 4) v) (share plus turn1 (b + 0) a u)))
        ∙ sym (double-turn 1 c (plus (share plus turn1 6 (a + 4) v) (share plus turn1 (b + 0) a u)))
        ∙ ap (double 1) (turn-plus c (share plus turn1 6 (a + 4) v) (share plus turn1 (b + 0) a u)
        ∙ (λ i. plus (turn-share c 6 (a + 4) v i) ((turn-share c (b + 0) a u ∙ ap (λ n. share plus turn1 n a u) sums) i))))
    both v u false = ap (λ z. double 1 (double 1 z)) (
        (λ i. plus (share-double 0 a v i) (share-double_turn b 2 (a + 4) u i))
        ∙ sym (double-plus 1 (share plus turn1 0 a v) (share plus turn1 (b + 2) (a + 4) u)))

pub Turns_phases : (j k q : ℕ) → Turns 0 (U 0 0 j q ∷ U 0 0 k q ∷ []) (U 0 0 (j + k) q ∷ [])
Turns_phases j k q = record {
  law = λ f x.
      ap (double 2) (applied_phase (j + k) q [] f x)
      ∙ both (f x) (x q)
      ∙ ap (double 1) (sym (applied_phase j q (U 0 0 k q ∷ []) f x ∙ ap (λ u. double 1 (turn (cond (x q) j 0) u)) (applied_phase k q [] f x)));
}
  where
    both : (v : Ring) (t : Bool) → double 2 (double 1 (turn (cond t (j + k) 0) v)) ≡ double 1 (double 1 (turn (cond t j 0) (double 1 (turn (cond t k 0) v))))
    both v true = ap (λ z. double 1 (double 1 z)) (ap (double 1) (sym (turn-turn j k v)) ∙ double-turn 1 j (turn k v))
    both v false = refl
