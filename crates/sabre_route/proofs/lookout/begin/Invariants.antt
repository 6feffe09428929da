use Rattle.std.proofs.Common.{◌≡◌, length, map, slice_index, take}
use Rattle.unitary_model.specs.Placement.{position_of}
use Rattle.sabre_route.proofs.lookout.begin.Given as goal

abbrev pub invariant-layer : goal.invariant-layer
invariant-layer l = (length l.places ≡ length l.initial.places) × (take l.number l.places ≡ map (λ p. slice_index l.heads (position_of p.0 l.placement)) (take l.number l.layer))
