use Rattle.std.proofs.Common.{List, sym, subst, ap}
use Rattle.circuit_list.specs.declared.Gate.{Gate}
use Rattle.circuit_list.specs.Body.{Body}
use Rattle.commute_rules.specs.Reducible.{NoReducible}
use Rattle.rewrite_pass.specs.Law.{IsSmallerOrSame, KeepsCnots}
use Rattle.gate_cancel.proofs.cancelled.Goals as goal

pub returns-clause-none : goal.returns-clause-none
returns-clause-none c = subst NoReducible (sym (ap (λ (b : Body). b.gates) c.finish.ensures.body)) c.in_ok-cancel_all.ensures.none

pub returns-clause-kept : goal.returns-clause-kept
returns-clause-kept c =
    let k = c.in_ok-cancel_all.ensures.cancelled in
    let first = c.new-circuit.result.body.gates in
    let last = c.finish.result.0.body.gates in
    subst (λ (gs : List Gate). KeepsCnots gs last × IsSmallerOrSame gs last) (ap (λ (b : Body). b.gates) c.new-circuit.ensures.body)
    (subst (λ (gs : List Gate). KeepsCnots first gs × IsSmallerOrSame first gs) (sym (ap (λ (b : Body). b.gates) c.finish.ensures.body)) (k.cnots, k.smaller))
