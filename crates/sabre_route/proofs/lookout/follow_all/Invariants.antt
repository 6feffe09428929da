use Rattle.std.proofs.Common.{◌-◌}
use Rattle.sabre_route.specs.Looking.{IsOnward}
use Rattle.sabre_route.proofs.lookout.follow_all.Given as goal

abbrev pub invariant-met : goal.invariant-met
invariant-met l = IsOnward l.cnots l.limit l.fn.count l.next l.met l.initial.places l.places l.initial.reach l.reach

abbrev pub decreases-met : goal.decreases-met
decreases-met l = l.limit - l.next
