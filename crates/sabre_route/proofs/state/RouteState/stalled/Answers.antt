use Rattle.std.proofs.Common.{ap}
use Rattle.sabre_route.specs.Machine.{State}
use Rattle.sabre_route.proofs.state.RouteState.stalled.Goals as goal

pub returns : goal.returns
returns c = record { value = ap (λ (s : State). s.stalled) c.self.view_is }
