use Rattle.std.proofs.Common.{◌≡◌, ◌∙◌, List, subst, sym}
use Rattle.circuit_list.specs.declared.Gate.{Gate}
use Rattle.sabre_route.specs.Ahead.{IsLookoutOver}
use Rattle.sabre_route.proofs.router.route_traced.Goals as goal

pub returns-clause-events : goal.returns-clause-events
returns-clause-events c = λ ahead h.
    let value : c.deref.result.now ≡ c.args.circuit.now.gates = c.deref.ensures.value ∙ c.in_ok-gates.ensures.ok in
    let e = rw c.in_ok-teller.ensures.left at c.in_ok-routed.ensures.events in
    e ahead (subst (λ (xs : List Gate). IsLookoutOver ahead c.args.lookout.now c.args.device.now.size xs) (sym value) h)
