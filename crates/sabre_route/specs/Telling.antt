-- The events that a run tells.
--   told e                      an event as it is told: without the gate that is emitted
--   IsRoutedBy ahead d gs given r es  r is exactly what the run from `given` writes, and es tells its events in their order
use Rattle.std.specs.Prelude.{◌≡◌, ℕ, List, map}
use Rattle.circuit_list.specs.declared.Gate.{Gate}
use Rattle.coupling_map.specs.Coupling.{Coupling}
use Rattle.sabre_route.specs.declared.events.Event.{Event as Told}
use Rattle.sabre_route.specs.declared.events.Event.TheVariants.{Emit as ToldEmit, Swap as ToldSwap}
use Rattle.sabre_route.specs.declared.router.Routed.{Routed}
use Rattle.sabre_route.specs.Machine.{Event, Emit, Swap}
use Rattle.sabre_route.specs.Routing.{IsRouted}
use Rattle.sabre_route.specs.Ahead.{Ahead}

abbrev pub told : Event → Told
told (Emit j g) = ToldEmit j
told (Swap a b) = ToldSwap a b

pub record IsRoutedBy (ahead : Ahead) (d : Coupling) (gs : List Gate) (given : List ℕ) (r : Routed) (es : List Told) : Type 0 where
  pub routed : IsRouted ahead d gs given r
  pub events : es ≡ map told routed.events
