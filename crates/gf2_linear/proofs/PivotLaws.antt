-- Pivots of rows, in order.
--   ArePivots-append       one row more with its pivot
--   pivots-differ          two rows have two pivots
use Rattle.std.proofs.Common.{◌≡◌, ℕ, ◌<◌, List, [], ◌∷◌, ◌++◌, length, take, get_or, sym, ap, subst, ◌∙◌, arith, inl, inr}
use Rattle.std.specs.Int.{bit_at}
use Rattle.std.proofs.lemmas.List.{length-append, length-take-le, take-append-le, get_or-take}
use Rattle.std.proofs.Math.Seq.{take-append_seam, get_or-append_seam}
use Rattle.std.proofs.Math.ListN.{get_or-append}
use Rattle.std.proofs.lemmas.Bool.{cases_lt}
use Rattle.gf2_linear.specs.Completions.{IsPivot, ArePivots}

pivot-same : (a b p q : List ℕ) (r s x y : ℕ) → a ≡ b → p ≡ q → r ≡ s → x ≡ y → IsPivot a p r x → IsPivot b q s y
pivot-same a b p q r s x y ea ep er ex h =
    subst (λ (k : List ℕ). IsPivot k q s y) ea
    (subst (λ (k : List ℕ). IsPivot a k s y) ep
    (subst (λ (k : ℕ). IsPivot a p k y) er
    (subst (λ (k : ℕ). IsPivot a p r k) ex h)))

pub ArePivots-append : (rows : List ℕ) (v : ℕ) (pivots : List ℕ) (p : ℕ) → ArePivots rows pivots → IsPivot rows pivots v p
    → ArePivots (rows ++ v ∷ []) (pivots ++ p ∷ [])
ArePivots-append rows v pivots p h n = record {
  long = omega (arith, h.long, length-append rows (v ∷ []), length-append pivots (p ∷ []));
  each = λ j l. elim (cases_lt j (length rows)) [
    | inl s ↦
        let t : j < length pivots = omega (arith, h.long) in
        pivot-same (take j rows) (take j (rows ++ v ∷ [])) (take j pivots) (take j (pivots ++ p ∷ []))
        (get_or rows j 0) (get_or (rows ++ v ∷ []) j 0) (get_or pivots j 0) (get_or (pivots ++ p ∷ []) j 0)
        (sym (take-append-le j rows (v ∷ []) (omega arith))) (sym (take-append-le j pivots (p ∷ []) (omega arith)))
        (sym (get_or-append rows (v ∷ []) 0 j s)) (sym (get_or-append pivots (p ∷ []) 0 j t)) (h.each j s)
    | inr g ↦
        let e : length rows ≡ j = omega (arith, length-append rows (v ∷ [])) in
        let f : length pivots ≡ j = h.long ∙ e in
        pivot-same rows (take j (rows ++ v ∷ [])) pivots (take j (pivots ++ p ∷ [])) v (get_or (rows ++ v ∷ []) j 0) p (get_or (pivots ++ p ∷ []) j 0)
        (sym (take-append_seam rows (v ∷ [])) ∙ ap (λ k. take k (rows ++ v ∷ [])) e)
        (sym (take-append_seam pivots (p ∷ [])) ∙ ap (λ k. take k (pivots ++ p ∷ [])) f)
        (sym (get_or-append_seam rows v [] 0) ∙ ap (λ k. get_or (rows ++ v ∷ []) k 0) e)
        (sym (get_or-append_seam pivots p [] 0) ∙ ap (λ k. get_or (pivots ++ p ∷ []) k 0) f) n
  ];
}

-- what lacks the pivot of the earlier row has that of the later
pub pivots-differ : (rows pivots : List ℕ) (i j : ℕ) → ArePivots rows pivots → i < j → j < length rows → get_or pivots i 0 ≡ get_or pivots j 0 → ⊥
pivots-differ rows pivots i j h l n e =
    let p : IsPivot (take j rows) (take j pivots) (get_or rows j 0) (get_or pivots j 0) = h.each j n in
    let t : length (take j pivots) ≡ j = length-take-le j pivots (omega (arith, h.long)) in
    let z : bit_at p.left (get_or (take j pivots) i 0) ≡ 0 = p.lacks i (omega (arith, t)) in
    let o : bit_at p.left (get_or pivots j 0) ≡ 1 = p.least.there in
    absurd (omega (arith, sym z ∙ ap (bit_at p.left) (get_or-take j pivots i 0 l ∙ e) ∙ o))
