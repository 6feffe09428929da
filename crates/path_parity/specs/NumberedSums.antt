-- The path sum with numbered variables: an H gives the least variable not used so far, which is u below.
--     numbered_hadamard g w       an H as its wire and the set of the label before it;  numbered_hadamards gs w u: those of a list,
--                                 in order
--     numbered_term g w u         what a gate puts on a set, as `term` of NamedSums;  numbered_terms gs w u: of a list
--     numbered_constant gs w u    what the gates of a list put on no set, together, as `constant` there
--     SameNumbered n A B          the same H in the same order with the same sets, the same last labels, and on each set the same
--                                 total modulo 8
use Rattle.std.specs.Prelude.{◌≡◌, ℕ, ◌+◌, ◌-◌, ◌%◌, ◌^◌, ◌<◌, cond, List, [], ◌∷◌, ◌++◌}
use Rattle.circuit_list.specs.declared.Gate.{Gate}
use Rattle.circuit_list.specs.declared.Gate.TheVariants.{H, X, P, Cx}
use Rattle.path_parity.specs.PathSum.{Wires, own_labels, labels_after, unused_after, last_labels}
use Rattle.path_parity.specs.NamedSums.{constant_at, total}

abbrev pub numbered_hadamard : Gate → Wires → List (ℕ × ℕ)
numbered_hadamard (H q) w = (q, (w q).variables) ∷ []
numbered_hadamard (X q) w = []
numbered_hadamard (P k q) w = []
numbered_hadamard (Cx c t) w = []

abbrev pub numbered_hadamards : List Gate → Wires → ℕ → List (ℕ × ℕ)
numbered_hadamards [] w u = []
numbered_hadamards (g ∷ gs) w u = numbered_hadamard g w ++ numbered_hadamards gs (labels_after g w u) (unused_after g u)

abbrev pub numbered_term : Gate → Wires → ℕ → List (ℕ × ℕ)
numbered_term (H q) w u = cond (w q).bit ((2 ^ u, 4) ∷ []) []
numbered_term (X q) w u = []
numbered_term (P k q) w u = ((w q).variables, cond (w q).bit (8 - k) k) ∷ []
numbered_term (Cx c t) w u = []

abbrev pub numbered_terms : List Gate → Wires → ℕ → List (ℕ × ℕ)
numbered_terms [] w u = []
numbered_terms (g ∷ gs) w u = numbered_term g w u ++ numbered_terms gs (labels_after g w u) (unused_after g u)

abbrev pub numbered_constant : List Gate → Wires → ℕ → ℕ
numbered_constant [] w u = 0
numbered_constant (g ∷ gs) w u = constant_at g w + numbered_constant gs (labels_after g w u) (unused_after g u)

pub record SameNumbered (n : ℕ) (A B : List Gate) : Type 0 where
  pub hadamards : numbered_hadamards B (own_labels n) n ≡ numbered_hadamards A (own_labels n) n
  pub last : (q : ℕ) → q < n → last_labels B (own_labels n) n q ≡ last_labels A (own_labels n) n q
  pub totals : (m : ℕ) → total m (numbered_terms B (own_labels n) n) % 8 ≡ total m (numbered_terms A (own_labels n) n) % 8
