-- Layers by levels, by hand.
use Rattle.std.proofs.Common.{◌≡◌, [], ◌∷◌, refl}
use Rattle.circuit_list.specs.declared.Gate.TheVariants.{H, X, P, Cx}
use Rattle.circuit_layers.specs.Layers.{layers_of}

t_then_h : layers_of (P 1 0 ∷ H 0 ∷ []) ≡ record { gates = P 1 0 ∷ []; hadamards = 0 ∷ [] } ∷ []
t_then_h = refl

two_h : layers_of (H 0 ∷ H 0 ∷ []) ≡ record { gates = []; hadamards = 0 ∷ [] } ∷ record { gates = []; hadamards = 0 ∷ [] } ∷ []
two_h = refl

descending_h : layers_of (H 2 ∷ H 0 ∷ H 1 ∷ []) ≡ record { gates = []; hadamards = 0 ∷ 1 ∷ 2 ∷ [] } ∷ []
descending_h = refl

-- a gate behind an H is a layer later, and one on a free wire isn't
behind_and_beside : layers_of (H 0 ∷ Cx 0 1 ∷ X 2 ∷ [])
    ≡ record { gates = X 2 ∷ []; hadamards = 0 ∷ [] } ∷ record { gates = Cx 0 1 ∷ []; hadamards = [] } ∷ []
behind_and_beside = refl
