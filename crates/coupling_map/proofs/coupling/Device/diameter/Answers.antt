use Rattle.std.proofs.Common.{subst, sym}
use Rattle.coupling_map.specs.Coupling.{Coupling, cost, IsCoupling}
use Rattle.coupling_map.specs.Costs.{cost_of}
use Rattle.coupling_map.specs.Tables.{listed_costs}
use Rattle.coupling_map.specs.Walks.{IsDiameter}
use Rattle.coupling_map.proofs.ConnectedLaws.{diameter-without_costs}
use Rattle.coupling_map.proofs.coupling.Device.diameter.Goals as goal

pub returns-clause-diameter : goal.returns-clause-diameter
returns-clause-diameter c =
    let a = c.self.inside in
    subst (λ (d : Coupling). IsDiameter d.size d.edges (cost d) c.from.result) c.self.view_is
    (subst (λ k. IsDiameter a.graph.size a.graph.edges (cost_of a.graph.edges (listed_costs a.costs)) k) (sym c.from.ensures) c.self.invariant.greatest)

pub returns-clause-hops_limit : goal.returns-clause-hops_limit
returns-clause-hops_limit c none =
    diameter-without_costs c.args.self.now c.from.result (subst IsCoupling c.self.view_is c.self.invariant.coupling) none (returns-clause-diameter c)
