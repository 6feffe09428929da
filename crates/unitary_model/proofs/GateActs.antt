-- What the plain gates do.
--     applied_phase           P(k): a turn by k where the bit is 1, twice
--     applied_flip            X: the bit is flipped, with w^2, twice
--     skew v                  (1 + w^2) v
--     applied_had             H: the sum over both bits, with the sign where both are 1, times 1 + w^2
use Rattle.std.proofs.Common.{◌≡◌, ℕ, zero, suc, ◌+◌, Bool, true, false, cond, not, List, ◌∷◌, refl, sym, ◌∙◌, ap, zero-add}
use Rattle.unitary_model.specs.declared.Op.{Op}
use Rattle.unitary_model.specs.declared.Op.TheVariants.{U}
use Rattle.unitary_model.specs.Ring.{Ring, nought, plus, turn1, turn, double}
use Rattle.unitary_model.specs.Acts.{spins, share, Bits, put, applied}
use Rattle.unitary_model.proofs.RingLaws.{plus_comm, nought-plus, plus-nought, plus-turn4, turn-plus, turn8, turn_wraps}
use Rattle.unitary_model.proofs.Slide.{put_own, share-plus}

-- w^k for spins
pub spins-turn : (k : ℕ) (v : Ring) → spins turn1 k v ≡ turn k v
spins-turn zero v = refl
spins-turn (suc k) v = ap turn1 (spins-turn k v)

turn-nought : (k : ℕ) → turn k nought ≡ nought
unfolding turn1 nought
turn-nought zero = refl
turn-nought (suc k) = ap turn1 (turn-nought k)

-- w^k (1 + w^4) is 0
share4 : (k : ℕ) (v : Ring) → share plus turn1 k 4 v ≡ nought
share4 k v = spins-turn k (plus v (turn 4 v)) ∙ ap (turn k) (plus-turn4 v) ∙ turn-nought k

share0 : (k : ℕ) (v : Ring) → share plus turn1 k 0 v ≡ double 1 (turn k v)
share0 k v = spins-turn k (plus v v) ∙ turn-plus k v v

share8 : (k : ℕ) (v : Ring) → share plus turn1 k 8 v ≡ double 1 (turn k v)
share8 k v = ap (λ u. spins turn1 k (plus v u)) (turn8 v) ∙ share0 k v

-- P(k)
pub applied_phase : (k q : ℕ) (us : List Op) (f : Bits → Ring) (x : Bits) → applied (U 0 0 k q ∷ us) f x ≡ double 1 (turn (cond (x q) k 0) (applied us f x))
applied_phase k q us f x = go (x q) refl
  where
    F : Bool → Ring
    F b = applied us f (put x q b)

    low : false ≡ x q → plus (share plus turn1 0 0 (F false)) (share plus turn1 2 4 (F true)) ≡ double 1 (applied us f x)
    low e = (λ i. plus (share0 0 (F false) i) (share4 2 (F true) i)) ∙ plus-nought (double 1 (F false)) ∙ ap (λ y. double 1 (applied us f y)) (put_own x q false e)

    high : true ≡ x q → plus (share plus turn1 (k + 6) 4 (F false)) (share plus turn1 (0 + k) 0 (F true)) ≡ double 1 (turn k (applied us f x))
    high e = (λ i. plus (share4 (k + 6) (F false) i) (share0 (zero-add k i) (F true) i)) ∙ nought-plus (double 1 (turn k (F true))) ∙ ap (λ y. double 1 (turn k (applied us f y))) (put_own x q true e)

    go : (v : Bool) → v ≡ x q → applied (U 0 0 k q ∷ us) f x ≡ double 1 (turn (cond (x q) k 0) (applied us f x))
    go true e = (λ i. cond (sym e i) (plus (share plus turn1 (k + 6) 4 (F false)) (share plus turn1 (0 + k) 0 (F true))) (plus (share plus turn1 0 0 (F false)) (share plus turn1 2 4 (F true))))
        ∙ high e ∙ (λ i. double 1 (turn (cond (e i) k 0) (applied us f x)))
    go false e = (λ i. cond (sym e i) (plus (share plus turn1 (k + 6) 4 (F false)) (share plus turn1 (0 + k) 0 (F true))) (plus (share plus turn1 0 0 (F false)) (share plus turn1 2 4 (F true))))
        ∙ low e ∙ (λ i. double 1 (turn (cond (e i) k 0) (applied us f x)))

-- X
pub applied_flip : (q : ℕ) (us : List Op) (f : Bits → Ring) (x : Bits) → applied (U 4 0 4 q ∷ us) f x ≡ double 1 (turn 2 (applied us f (put x q (not (x q)))))
applied_flip q us f x = go (x q)
  where
    F : Bool → Ring
    F b = applied us f (put x q b)

    go : (v : Bool) → cond v (plus (share plus turn1 10 8 (F false)) (share plus turn1 4 4 (F true))) (plus (share plus turn1 0 4 (F false)) (share plus turn1 2 8 (F true))) ≡ double 1 (turn 2 (F (not v)))
    go true = (λ i. plus (share8 10 (F false) i) (share4 4 (F true) i)) ∙ plus-nought (double 1 (turn 10 (F false))) ∙ ap (double 1) (turn_wraps 2 (F false))
    go false = (λ i. plus (share4 0 (F false) i) (share8 2 (F true) i)) ∙ nought-plus (double 1 (turn 2 (F true)))

-- 1 + w^2
abbrev pub skew : Ring → Ring
skew v = share plus turn1 0 2 v

-- H
pub applied_had : (q : ℕ) (us : List Op) (f : Bits → Ring) (x : Bits) → applied (U 2 0 4 q ∷ us) f x ≡ skew (plus (applied us f (put x q false)) (turn (cond (x q) 4 0) (applied us f (put x q true))))
applied_had q us f x = go (x q)
  where
    F : Bool → Ring
    F b = applied us f (put x q b)

    minus : (v : Ring) → share plus turn1 4 2 v ≡ skew (turn 4 v)
    minus v = turn-plus 4 v (turn 2 v)

    around : (v : Ring) → share plus turn1 10 6 v ≡ skew v
    around v = turn-plus 10 v (turn 6 v) ∙ (λ i. plus (turn_wraps 2 v i) ((turn_wraps 8 v ∙ turn8 v) i)) ∙ plus_comm (turn 2 v) v

    two : (v : Ring) → share plus turn1 2 6 v ≡ skew v
    two v = turn-plus 2 v (turn 6 v) ∙ ap (plus (turn 2 v)) (turn8 v) ∙ plus_comm (turn 2 v) v

    go : (v : Bool) → cond v (plus (share plus turn1 10 6 (F false)) (share plus turn1 4 2 (F true))) (plus (share plus turn1 0 2 (F false)) (share plus turn1 2 6 (F true))) ≡ skew (plus (F false) (turn (cond v 4 0) (F true)))
    go true = (λ i. plus (around (F false) i) (minus (F true) i)) ∙ sym (share-plus 0 2 (F false) (turn 4 (F true)))
    go false = (λ i. plus (skew (F false)) (two (F true) i)) ∙ sym (share-plus 0 2 (F false) (F true))
