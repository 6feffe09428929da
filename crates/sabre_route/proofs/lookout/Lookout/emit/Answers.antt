use Rattle.std.proofs.Common.{ap, length, subst, sym, arith}
use Rattle.sabre_route.specs.Looking.{IsLookout}
use Rattle.sabre_route.proofs.LookoutLaws.{emitted-on, emitted-past, emitting, emitting-place, written-back}
use Rattle.sabre_route.proofs.lookout.Lookout.emit.Goals as goal

pub index-place-requires : goal.index-place-requires
index-place-requires c =
    let s = c.self.inside in
    let e = emitting s.cnots.now s.heads.items s.later.now c.args.self.now c.args.gate c.is_cx.result c.self.invariant c.self.view_is c.is_cx.ensures.value c.if-is_cx.true c.requires.first in
    omega (arith, e.stands.below, c.wires_of-first.ensures.first, s.heads.ok)

pub pass-requires-clause-within : goal.pass-requires-clause-within
pass-requires-clause-within c =
    let s = c.self.inside in
    let e = emitting s.cnots.now s.heads.items s.later.now c.args.self.now c.args.gate c.is_cx.result c.self.invariant c.self.view_is c.is_cx.ensures.value c.if-is_cx.true c.requires.first in
    omega (arith, e.stands.first.within, emitting-place s.cnots.now s.heads.items c.args.gate c.args.self.now.left _ _ e c.wires_of-first.ensures.first c.index-place.ensures)

pub invariant_of-self : goal.invariant_of-self
invariant_of-self c =
    let s = c.self.inside in
    let e = emitting s.cnots.now s.heads.items s.later.now c.args.self.now c.args.gate c.is_cx.result c.self.invariant c.self.view_is c.is_cx.ensures.value c.if-is_cx.true c.requires.first in
    let on = emitted-on s.cnots.now s.heads.items c.as_mut_slice.result.now c.pass.new.reach s.later.now c.args.self.now c.args.gate c.index-place.result.now c.self.invariant c.self.view_is e
    (emitting-place s.cnots.now s.heads.items c.args.gate c.args.self.now.left _ _ e c.wires_of-first.ensures.first c.index-place.ensures) c.as_mut_slice.ensures.value c.pass.ensures.passed in
    subst (λ js. IsLookout s.cnots.now js s.later.now) (sym (written-back s.heads.len c.pass.new.reach s.heads.items (omega (arith, s.heads.ok, ap length c.as_mut_slice.ensures.value, c.pass.auto.reach)))) on.lookout

pub returns-then-is_cx-clause-past : goal.returns-then-is_cx-clause-past
returns-then-is_cx-clause-past c =
    let s = c.self.inside in
    let e = emitting s.cnots.now s.heads.items s.later.now c.args.self.now c.args.gate c.is_cx.result c.self.invariant c.self.view_is c.is_cx.ensures.value c.if-is_cx.true c.requires.first in
    let on = emitted-on s.cnots.now s.heads.items c.as_mut_slice.result.now c.pass.new.reach s.later.now c.args.self.now c.args.gate c.index-place.result.now c.self.invariant c.self.view_is e
    (emitting-place s.cnots.now s.heads.items c.args.gate c.args.self.now.left _ _ e c.wires_of-first.ensures.first c.index-place.ensures) c.as_mut_slice.ensures.value c.pass.ensures.passed in
    emitted-past s.cnots.now s.later.now c.args.self.now.left c.args.gate c.is_cx.result e.number c.pass.new.reach _ c.is_cx.ensures.value c.if-is_cx.true e.first on
    (written-back s.heads.len c.pass.new.reach s.heads.items (omega (arith, s.heads.ok, ap length c.as_mut_slice.ensures.value, c.pass.auto.reach)))
