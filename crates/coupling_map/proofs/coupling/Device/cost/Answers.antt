use Rattle.std.proofs.Common.{◌≡◌, ◌∙◌, sym, subst, arith}
use Rattle.std.specs.Prelude.{IsTrue}
use Rattle.coupling_map.specs.Coupling.{Coupling, cost, IsCoupling}
use Rattle.coupling_map.specs.Walks.{is_near}
use Rattle.coupling_map.proofs.CostLaws.{cost-limited, cost-positive, listed-near, priced-near}
use Rattle.coupling_map.proofs.coupling.Device.cost.Goals as goal

pub cost-requires : goal.cost-requires
cost-requires c = record {
  listed =
      let d = c.self.inside in
      let t : IsTrue (is_near d.graph.edges c.args.a c.args.b) = subst (λ (e : Coupling). IsTrue (is_near e.edges c.args.a c.args.b)) (sym c.self.view_is) c.requires.near in
      let h = c.self.invariant in
      listed-near d.graph.size d.graph.edges d.costs h.coupling.graph.within h.coupling.costs h.priced c.args.a c.args.b t;
}

pub returns-clause-exact : goal.returns-clause-exact
returns-clause-exact c =
    let d = c.self.inside in
    let t : IsTrue (is_near d.graph.edges c.args.a c.args.b) = subst (λ (e : Coupling). IsTrue (is_near e.edges c.args.a c.args.b)) (sym c.self.view_is) c.requires.near in
    let h = c.self.invariant in
    subst (λ (e : Coupling). c.cost.result ≡ cost e c.args.a c.args.b) c.self.view_is
    (c.cost.ensures.value ∙ priced-near d.graph.size d.graph.edges d.costs h.coupling.graph.within h.priced c.args.a c.args.b t)

pub returns-clause-positive : goal.returns-clause-positive
returns-clause-positive c =
    let h : IsCoupling c.args.self.now = subst IsCoupling c.self.view_is c.self.invariant.coupling in
    omega (arith, returns-clause-exact c, cost-positive c.args.self.now h c.args.a c.args.b)

pub returns-clause-limited : goal.returns-clause-limited
returns-clause-limited c =
    let h : IsCoupling c.args.self.now = subst IsCoupling c.self.view_is c.self.invariant.coupling in
    omega (arith, returns-clause-exact c, cost-limited c.args.self.now h c.args.a c.args.b)
