-- Gates on the wires alone, walked on wires and spares.
--   wide                  a polynomial with spares behind its map
--   wide-walk             the walk of gates on the wires is the walk on the wires, with the spares empty
--   spared-of             so for a list, from no gates
use Rattle.std.proofs.Common.{◌≡◌, ℕ, ◌+◌, ◌-◌, ◌%◌, ◌^◌, ◌<◌, Bool, true, false, cond, List, [], ◌∷◌, ◌++◌, length, replicate, refl, sym, ◌∙◌, ap, subst, get_or, set}
use Rattle.std.specs.Prelude.{bit_xor}
use Rattle.std.proofs.lemmas.List.{set-append_left}
use Rattle.circuit_list.specs.declared.Gate.{Gate}
use Rattle.circuit_list.specs.declared.Gate.TheVariants.{H, X, P, Cx}
use Rattle.gf2_linear.specs.Matrices.{added}
use Rattle.gf2_linear.proofs.MatrixLaws.{length-identity}
use Rattle.gf2_linear.proofs.RunLaws.{length-added}
use Rattle.phase_poly.specs.Rows.{has}
use Rattle.phase_poly.specs.Polys.{AreDihedral, PolyBody, first_poly, polyed, polyed_all, walked_poly, with_term}
use Rattle.spare_layers.specs.SparedLayers.{spare_rows, spared_poly}
use Rattle.spare_layers.proofs.SparedLayerLaws.{get-first}

abbrev pub wide : ℕ → PolyBody → PolyBody
wide m p = record p { map = spare_rows m p.map }

added-spare : (rows : List ℕ) (m c t : ℕ) → c < length rows → t < length rows → added (rows ++ replicate m 0) (c, t) ≡ added rows (c, t) ++ replicate m 0
unfolding added
added-spare rows m c t lc lt =
    (λ i. set (rows ++ replicate m 0) t (bit_xor (get-first rows m t lt i) (get-first rows m c lc i)))
    ∙ set-append_left rows (replicate m 0) t (bit_xor (get_or rows t 0) (get_or rows c 0)) lt

wide_phase : (m k q : ℕ) (p : PolyBody) → q < length p.map → polyed (P k q) (wide m p) ≡ wide m (polyed (P k q) p)
wide_phase m k q p l = go (has p.flips q)
  where
    go : (b : Bool) → cond b
        (record (wide m p) { constant = (p.constant + k) % 8; terms = with_term (get_or (p.map ++ replicate m 0) q 0) (8 - k) p.terms })
        (record (wide m p) { terms = with_term (get_or (p.map ++ replicate m 0) q 0) k p.terms })
        ≡ wide m (cond b (record p { constant = (p.constant + k) % 8; terms = with_term (get_or p.map q 0) (8 - k) p.terms }) (record p { terms = with_term (get_or p.map q 0) k p.terms }))
    go true = λ i. record (wide m p) { constant = (p.constant + k) % 8; terms = with_term (get-first p.map m q l i) (8 - k) p.terms }
    go false = λ i. record (wide m p) { terms = with_term (get-first p.map m q l i) k p.terms }

phase_long : (n k q : ℕ) (p : PolyBody) → length p.map ≡ n → length (polyed (P k q) p).map ≡ n
phase_long n k q p e = go (has p.flips q)
  where
    go : (b : Bool) → length (cond b
        (record p { constant = (p.constant + k) % 8; terms = with_term (get_or p.map q 0) (8 - k) p.terms })
        (record p { terms = with_term (get_or p.map q 0) k p.terms })).map ≡ n
    go true = e
    go false = e

pub wide-walk : (n m : ℕ) (gs : List Gate) (p : PolyBody) → AreDihedral n gs → length p.map ≡ n → polyed_all gs (wide m p) ≡ wide m (polyed_all gs p)
wide-walk n m [] p f e = refl
wide-walk n m (H q ∷ gs) p f e = absurd f.0
wide-walk n m (X q ∷ gs) p f e = wide-walk n m gs (polyed (X q) p) f.1 e
wide-walk n m (P k q ∷ gs) p f e =
    ap (polyed_all gs) (wide_phase m k q p (subst (λ l. q < l) (sym e) f.0.0)) ∙ wide-walk n m gs (polyed (P k q) p) f.1 (phase_long n k q p e)
wide-walk n m (Cx c t ∷ gs) p f e =
    ap (λ (rows : List ℕ). polyed_all gs (record (wide m p) { map = rows; flips = cond (has p.flips c) (bit_xor p.flips (2 ^ t)) p.flips }))
    (added-spare p.map m c t (subst (λ l. c < l) (sym e) f.0.0) (subst (λ l. t < l) (sym e) f.0.1.0))
    ∙ wide-walk n m gs (polyed (Cx c t) p) f.1 (length-added p.map (c, t) ∙ e)

pub spared-of : (n m : ℕ) (gs : List Gate) → AreDihedral n gs → spared_poly n m gs ≡ wide m (walked_poly n gs)
spared-of n m gs f = wide-walk n m gs (first_poly n) f (length-identity n)
