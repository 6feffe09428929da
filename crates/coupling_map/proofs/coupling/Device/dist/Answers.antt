use Rattle.std.proofs.Common.{◌+◌, ◌*◌, ◌<◌, ◌≤◌, length, get_or, sym, ap, ◌∙◌, subst}
use Rattle.std.proofs.lemmas.List.{get_or_read}
use Rattle.std.proofs.lemmas.List.Elements.{All-get_or}
use Rattle.coupling_map.specs.Coupling.{Coupling, cost, IsCoupling}
use Rattle.coupling_map.specs.Costs.{most_cost, cost_of}
use Rattle.coupling_map.specs.Tables.{listed_costs}
use Rattle.coupling_map.proofs.CostLaws.{cost-positive, cost-symmetric}
use Rattle.coupling_map.specs.Walks.{IsDistance}
use Rattle.coupling_map.proofs.ConnectedLaws.{few-without_costs, one-without_costs}
use Rattle.coupling_map.proofs.CouplingLaws.{zero-distance}
use Rattle.coupling_map.proofs.WalkLaws.{IsDistance-symmetric}
use Rattle.coupling_map.proofs.coupling.Device.dist.Goals as goal

pub returns-clause-exact : goal.returns-clause-exact
returns-clause-exact c =
    let n = c.self.inside.graph.size in
    let table = c.self.inside.distances.items in
    let a = c.args.a in
    let b = c.args.b in
    let la : a < n = subst (λ (d : Coupling). a < d.size) (sym c.self.view_is) c.requires.first in
    let lb : b < n = subst (λ (d : Coupling). b < d.size) (sym c.self.view_is) c.requires.second in
    let inside : c.place.result < length table =
    subst (λ m. c.place.result < m) (sym c.self.invariant.distances.long) (rw c.size.ensures.size at c.place.ensures.within) in
    let value = c.from.ensures ∙ get_or_read table c.place.result c.index.result.now inside c.index.ensures 0
    ∙ ap (λ k. get_or table k 0) (c.place.ensures.place ∙ ap (λ m. b * m + a) c.size.ensures.size) in
    subst (λ (d : Coupling). IsDistance d.edges (cost d) a b c.from.result) c.self.view_is
    (subst (IsDistance c.self.inside.graph.edges (cost_of c.self.inside.graph.edges (listed_costs c.self.inside.costs)) a b) (sym value) (c.self.invariant.distances.exact a b la lb))

pub returns-clause-symmetric : goal.returns-clause-symmetric
returns-clause-symmetric c =
    IsDistance-symmetric c.args.self.now.edges (cost c.args.self.now) (λ x y t. cost-symmetric c.args.self.now x y) c.args.a c.args.b c.from.result (returns-clause-exact c)

pub returns-clause-short : goal.returns-clause-short
returns-clause-short c =
    let n = c.self.inside.graph.size in
    let table = c.self.inside.distances.items in
    let inside : c.place.result < length table =
    subst (λ m. c.place.result < m) (sym c.self.invariant.distances.long) (rw c.size.ensures.size at c.place.ensures.within) in
    let value = c.from.ensures ∙ get_or_read table c.place.result c.index.result.now inside c.index.ensures 0 in
    subst (λ (d : Coupling). c.from.result + most_cost ≤ d.size * most_cost) c.self.view_is
    (subst (λ m. m + most_cost ≤ n * most_cost) (sym value) (All-get_or (λ m. m + most_cost ≤ n * most_cost) table c.place.result 0 inside c.self.invariant.distances.short))

pub returns-clause-zero : goal.returns-clause-zero
returns-clause-zero c =
    let h : IsCoupling c.args.self.now = subst IsCoupling c.self.view_is c.self.invariant.coupling in
    zero-distance c.args.self.now.edges (cost c.args.self.now) c.args.a c.args.b c.from.result (λ x y t. cost-positive c.args.self.now h x y) (returns-clause-exact c)

pub returns-clause-hops_limit : goal.returns-clause-hops_limit
returns-clause-hops_limit c none =
    few-without_costs c.args.self.now c.args.a c.args.b c.from.result (subst IsCoupling c.self.view_is c.self.invariant.coupling) none
    c.requires.first c.requires.second (returns-clause-exact c)

pub returns-clause-one : goal.returns-clause-one
returns-clause-one c none =
    one-without_costs c.args.self.now c.args.a c.args.b c.from.result (subst IsCoupling c.self.view_is c.self.invariant.coupling) none (returns-clause-exact c)
