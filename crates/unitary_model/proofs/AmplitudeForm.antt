-- From the amplitude as the matrix says it to the working form.
--     listed us f x           a list on functions from bit lists to Ring
--     amplitude_form us x y   the amplitude as a list that acts on functions of bit lists
--     amplitude-act           both are the same
use Rattle.std.proofs.Common.{◌≡◌, ℕ, zero, suc, ◌+◌, Bool, true, false, cond, not, List, [], ◌∷◌, refl, sym, ◌∙◌, ap, arith}
use Rattle.unitary_model.specs.declared.Op.{Op}
use Rattle.unitary_model.specs.declared.Op.TheVariants.{U, Cx}
use Rattle.unitary_model.specs.Ring.{Ring, nought, unit, plus, minus, turn1, turn}
use Rattle.unitary_model.specs.Acts.{spins, share, act}
use Rattle.unitary_model.specs.Amplitude.{bit_of, with_bit, same_bits, one_plus, one_minus, amplitude}
use Rattle.unitary_model.proofs.RingLaws.{turn-turn}

abbrev pub listed : List Op → (List Bool → Ring) → List Bool → Ring
listed = act plus turn1 bit_of with_bit

abbrev pub amplitude_form : List Op → List Bool → List Bool → Ring
amplitude_form us x y = listed us (λ z. cond (same_bits z y) unit nought) x

pub spins-turn : (k : ℕ) (v : Ring) → spins turn1 k v ≡ turn k v
spins-turn zero v = refl
spins-turn (suc k) v = ap turn1 (spins-turn k v)

pub minus-turn : (v : Ring) → minus v ≡ turn 4 v
unfolding minus turn1
minus-turn v = refl

share_plus : (k a : ℕ) (v : Ring) → turn k (one_plus a v) ≡ share plus turn1 k a v
share_plus k a v = sym (spins-turn k (plus v (spins turn1 a v)) ∙ ap (λ u. turn k (plus v u)) (spins-turn a v))

around : (j k l : ℕ) (v : Ring) → j + k ≡ l → turn j (turn k v) ≡ turn l v
around j k l v e = turn-turn j k v ∙ ap (λ n. turn n v) e

share_minus : (k a : ℕ) (v : Ring) → turn k (one_minus a v) ≡ share plus turn1 k (a + 4) v
share_minus k a v = ap (λ u. turn k (plus v u)) (minus-turn (turn a v) ∙ around 4 a (a + 4) v (omega arith)) ∙ share_plus k (a + 4) v

minus_share : (c a : ℕ) (v : Ring) → minus (turn (c + 2) (one_minus a v)) ≡ share plus turn1 (c + 6) (a + 4) v
minus_share c a v = minus-turn (turn (c + 2) (one_minus a v)) ∙ around 4 (c + 2) (c + 6) (one_minus a v) (omega arith) ∙ share_minus (c + 6) a v

pub amplitude-act : (us : List Op) (x y : List Bool) → amplitude us x y ≡ amplitude_form us x y
amplitude-act [] x y = refl
amplitude-act (Cx c t ∷ us) x y = go (bit_of x c) (amplitude-act us (with_bit x t (not (bit_of x t))) y) (amplitude-act us x y)
  where
    flipped : List Bool
    flipped = with_bit x t (not (bit_of x t))

    go : (b : Bool) → amplitude us flipped y ≡ amplitude_form us flipped y → amplitude us x y ≡ amplitude_form us x y →
        amplitude us (cond b flipped x) y ≡ cond b (amplitude_form us flipped y) (amplitude_form us x y)
    go true e f = e
    go false e f = f
amplitude-act (U a b c q ∷ us) x y =
    let to = λ (s : Bool). amplitude us (with_bit x q s) y in
    let form = λ (k l : ℕ) (s : Bool). ap (share plus turn1 k l) (amplitude-act us (with_bit x q s) y) in
    λ i. cond (bit_of x q)
    (plus ((minus_share c a (to false) ∙ form (c + 6) (a + 4) false) i) ((share_plus (b + c) a (to true) ∙ form (b + c) a true) i))
    (plus ((share_plus 0 a (to false) ∙ form 0 a false) i) ((share_minus (b + 2) a (to true) ∙ form (b + 2) (a + 4) true) i))
