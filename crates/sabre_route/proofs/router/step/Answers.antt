use Rattle.std.proofs.Common.{◌≡◌, ℕ, ◌∙◌, Option, None, Some, ap, length, refl, subst, sym}
use Rattle.circuit_list.specs.declared.Gate.{Gate}
use Rattle.sabre_route.specs.Ahead.{IsLookoutOver}
use Rattle.sabre_route.specs.Machine.{State, exchange, IsChosen, IsEmission, IsEmittable}
use Rattle.sabre_route.proofs.SeenLaws.{emission-can, emission-seen, exchange-seen}
use Rattle.sabre_route.proofs.router.step.Goals as goal

pub pass_by-requires : goal.pass_by-requires
pass_by-requires c =
    let e : (j : ℕ) × IsEmission c.args.device.now c.args.state.now j c.in-Some.gate c.emit_earliest.new.self = rw c.in-Some.is at c.in_ok-gate.ensures.step in
    record { first = emission-can c.requires.seen.0 c.args.lookout.now c.args.device.now c.args.state.now c.emit_earliest.new.self e.0 c.in-Some.gate c.requires.seen.1 e.1 }

pub returns-in-Some : goal.returns-in-Some
returns-in-Some c =
    let e : (j : ℕ) × IsEmission c.args.device.now c.args.state.now j c.in-Some.gate c.emit_earliest.new.self = rw c.in-Some.is at c.in_ok-gate.ensures.step in
    record { moved = λ ahead h. (e, emission-seen ahead c.args.lookout.now c.pass_by.new.lookout c.args.device.now c.args.state.now c.emit_earliest.new.self e.0 c.in-Some.gate h e.1 c.pass_by.ensures.past) }

none-of : (o : Option Gate) → ((g : Gate) → o ≡ Some g → ⊥) → o ≡ None
none-of None h = refl
none-of (Some g) h = absurd (h g refl)

pub returns : goal.returns
returns c =
    let d = c.args.device.now in
    let s = c.args.state.now in
    let t = c.emit_earliest.new.self in
    let none : c.in_ok-gate.field-0 ≡ None = none-of c.in_ok-gate.field-0 c.in_default.not-Some in
    let e : (t ≡ s) × ((j : ℕ) (x : Gate) → IsEmittable d.edges s.placement s.rest j x → ⊥) = rw none at c.in_ok-gate.ensures.step in
    let after = c.swap.ensures.exchanged ∙ ap (λ (x : State). exchange (length x.placement) x c.choose-a.result.0 c.choose-a.result.1) e.0 ∙ ap (λ n. exchange n s c.choose-a.result.0 c.choose-a.result.1) c.requires.placed in
    record {
      moved = λ ahead h. (
        record {
          stuck = e.1;
          chosen = subst (λ (x : State). IsChosen ahead d x c.choose-a.result.0 c.choose-a.result.1) e.0 (c.choose-a.ensures.chosen ahead (subst (λ (x : State). IsLookoutOver ahead c.args.lookout.now d.size x.rest) (sym e.0) h));
          after = after;
        },
        exchange-seen ahead c.args.lookout.now d.size d.size s c.swap.new.self c.choose-a.result.0 c.choose-a.result.1 after h,
      );
    }
