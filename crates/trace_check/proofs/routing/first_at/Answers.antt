use Rattle.std.proofs.Common.{◌≡◌, ℕ, Option, None, Some, slice_get, subst}
use Rattle.circuit_list.specs.Slots.{NoneBefore}
use Rattle.trace_check.proofs.FirstLaws.{first-free}
use Rattle.trace_check.proofs.routing.first_at.Goals as goal

none : (o : Option ℕ) (w : ℕ) (A : Type 0) → o ≡ None → o ≡ Some w → A
none o w A e f = absurd (cc)

same : (o : Option ℕ) (v w : ℕ) → o ≡ Some v → o ≡ Some w → v ≡ w
same o v w e f = cc

pub returns-in-None-second-clause-first : goal.returns-in-None-second-clause-first
returns-in-None-second-clause-first c =
    let gs = c.args.rest.now.gates in
    let g = c.gate_at-gate.result in
    let p = c.slot-slot.ensures.place in
    first-free gs c.args.place c.wires-first.result.0 c.wires-first.result.1 g (subst (λ k. slice_get gs k ≡ Some g) p c.gate_at-gate.ensures.there) c.wires-first.ensures.all
    (subst (λ k. NoneBefore c.wires-first.result.0 gs k) p c.in-None.ensures.found) (λ w e. none c.wires-first.result.1 w _ c.in-None-second.is e)

pub returns-in-None-prev_on-clause-first : goal.returns-in-None-prev_on-clause-first
returns-in-None-prev_on-clause-first c =
    let gs = c.args.rest.now.gates in
    let g = c.gate_at-gate.result in
    let p = c.slot-slot.ensures.place in
    first-free gs c.args.place c.wires-first.result.0 c.wires-first.result.1 g (subst (λ k. slice_get gs k ≡ Some g) p c.gate_at-gate.ensures.there) c.wires-first.ensures.all
    (subst (λ k. NoneBefore c.wires-first.result.0 gs k) p c.in-None.ensures.found)
    (λ w e. subst (λ v. NoneBefore v gs c.args.place) (same c.wires-first.result.1 c.in-Some-second.wire w c.in-Some-second.is e)
    (subst (λ k. NoneBefore c.in-Some-second.wire gs k) p c.in-None-prev_on.ensures.found))
