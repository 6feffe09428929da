-- Layers of the walk, by hand.
use Rattle.std.proofs.Common.{◌≡◌, [], ◌∷◌, refl}
use Rattle.circuit_list.specs.declared.Gate.TheVariants.{H, X, P, Cx}
use Rattle.circuit_layers.specs.Walk.{walk_layers}

two_h : walk_layers (H 0 ∷ H 0 ∷ []) ≡ record { gates = []; hadamards = 0 ∷ [] } ∷ record { gates = []; hadamards = 0 ∷ [] } ∷ []
two_h = refl

blocked_cx : walk_layers (H 2 ∷ H 1 ∷ Cx 0 1 ∷ X 0 ∷ P 1 3 ∷ H 3 ∷ H 0 ∷ [])
    ≡ record { gates = P 1 3 ∷ []; hadamards = 1 ∷ 2 ∷ 3 ∷ [] } ∷ record { gates = Cx 0 1 ∷ X 0 ∷ []; hadamards = 0 ∷ [] } ∷ []
blocked_cx = refl
