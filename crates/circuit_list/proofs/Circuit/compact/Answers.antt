use Rattle.std.proofs.Common.{◌∙◌, List, All, sym, ap, subst}
use Rattle.circuit_list.specs.Body.{Body}
use Rattle.circuit_list.specs.declared.Gate.{Gate}
use Rattle.circuit_list.specs.Gates.{IsFine}
use Rattle.circuit_list.proofs.Circuit.compact.Goals as goal

pub invariant_of-self : goal.invariant_of-self
invariant_of-self c = (c.self.invariant.0, subst (λ (gs : List Gate). All (IsFine c.self.inside.wires) gs) (sym c.compact.ensures.ok) c.self.invariant.1)

pub returns-clause-gates : goal.returns-clause-gates
returns-clause-gates c = c.compact.ensures.ok ∙ ap (λ (b : Body). b.gates) c.self.view_is
