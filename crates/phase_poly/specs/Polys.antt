-- The phase polynomial of a list of CNOT, X and P on n wires.
--   IsDihedral n g, AreDihedral n gs   a gate other than H that may stand on n wires, as in a CNOT-dihedral circuit; a list of them
--   Term                  a row, a set of wires, and its coefficient modulo 8
--   coefficient m ts      the sum of what the terms say of row m: a row that has no term has the coefficient 0
--   with_term m k ts      k is added to the coefficient of row m; a row that is new comes last
--   PolyBody              map: row i is the set of wires whose sum stands on wire i; flips: the wires with an added 1; a
--                         constant modulo 8; the terms in order of first appearance
--   first_poly n          the polynomial of no gates
--   polyed g p            the polynomial p after gate g;  polyed_all gs p: after a list
--   walked_poly n gs      the polynomial of a list, with the terms whose coefficient is 0
--   poly_of n gs          the polynomial of a list
--   SamePoly n t A B      B has the map, the flips and the coefficients of A, and a constant that is t more
use Rattle.std.specs.Prelude.{◌≡◌, ◌≢◌, ℕ, ◌+◌, ◌-◌, ◌%◌, ◌^◌, ◌<◌, ◌==◌, not, cond, List, [], ◌∷◌, filter, slice_index, bit_xor}
use Rattle.circuit_list.specs.declared.Gate.{Gate}
use Rattle.circuit_list.specs.declared.Gate.TheVariants.{H, X, P, Cx}
use Rattle.gf2_linear.specs.Matrices.{identity_rows, added}
use Rattle.phase_poly.specs.Rows.{has}

abbrev pub IsDihedral : ℕ → Gate → Type 0
IsDihedral n (H q) = ⊥
IsDihedral n (X q) = q < n
IsDihedral n (P k q) = (q < n) × ((0 < k) × (k < 8))
IsDihedral n (Cx c t) = (c < n) × ((t < n) × (c ≢ t))

abbrev pub AreDihedral : ℕ → List Gate → Type 0
AreDihedral n [] = Unit {0}
AreDihedral n (g ∷ gs) = IsDihedral n g × AreDihedral n gs

abbrev pub Term : Type 0
Term = ℕ × ℕ

abbrev pub coefficient : ℕ → List Term → ℕ
coefficient m [] = 0
coefficient m (e ∷ ts) = cond (e.0 == m) e.1 0 + coefficient m ts

abbrev pub with_term : ℕ → ℕ → List Term → List Term
with_term m k [] = (m, k) ∷ []
with_term m k (e ∷ ts) = cond (e.0 == m) ((m, (e.1 + k) % 8) ∷ ts) (e ∷ with_term m k ts)

pub record PolyBody : Type 0 where
  pub map : List ℕ
  pub flips : ℕ
  pub constant : ℕ
  pub terms : List Term

abbrev pub first_poly : ℕ → PolyBody
first_poly n = record { map = identity_rows n; flips = 0; constant = 0; terms = [] }

-- a P(k) on a wire with an added 1 turns by k where the sum is 0: by k always, and by -k where the sum is 1
abbrev pub polyed : Gate → PolyBody → PolyBody
polyed (H q) p = p
polyed (X q) p = record p { flips = bit_xor p.flips (2 ^ q); constant = (p.constant + 2) % 8 }
polyed (P k q) p = cond (has p.flips q)
    (record p { constant = (p.constant + k) % 8; terms = with_term (slice_index p.map q) (8 - k) p.terms })
    (record p { terms = with_term (slice_index p.map q) k p.terms })
polyed (Cx c t) p = record p { map = added p.map (c, t); flips = cond (has p.flips c) (bit_xor p.flips (2 ^ t)) p.flips }

abbrev pub polyed_all : List Gate → PolyBody → PolyBody
polyed_all [] p = p
polyed_all (g ∷ gs) p = polyed_all gs (polyed g p)

abbrev pub walked_poly : ℕ → List Gate → PolyBody
walked_poly n gs = polyed_all gs (first_poly n)

abbrev pub poly_of : ℕ → List Gate → PolyBody
poly_of n gs = let p = walked_poly n gs in record p { terms = filter (λ e. not (e.1 == 0)) p.terms }

pub record SamePoly (n t : ℕ) (A B : List Gate) : Type 0 where
  pub map : (poly_of n B).map ≡ (poly_of n A).map
  pub flips : (poly_of n B).flips ≡ (poly_of n A).flips
  pub coefficients : (m : ℕ) → coefficient m (poly_of n B).terms % 8 ≡ coefficient m (poly_of n A).terms % 8
  pub constant : (poly_of n B).constant ≡ ((poly_of n A).constant + t) % 8
