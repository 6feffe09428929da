use Rattle.std.proofs.Common.{ℕ, List, sym, subst, arith}
use Rattle.circuit_list.specs.declared.Gate.{Gate}
use Rattle.sabre_route.specs.Left.{IsFirstGate}
use Rattle.sabre_route.proofs.LeftLaws.{heads-taken, there-first, there-second}
use Rattle.sabre_route.proofs.left.Left.take.Goals as goal

pub next_on-requires-2-clause-on : goal.next_on-requires-2-clause-on
next_on-requires-2-clause-on c =
    there-second c.self.inside.circuit c.in-Some.slot c.wires_of-first.result.1 c.args.gate
    (there-first c.self.inside.circuit c.self.inside.heads.items c.args.self.now c.in-Some.slot c.wires_of-first.result.0 c.args.gate c.index.result.now c.self.invariant c.facts.ensures.fine c.self.view_is c.requires.first c.wires_of-first.ensures.first c.index.ensures c.in-Some.is)
    c.wires_of-first.ensures.second

pub index_mut-requires-2 : goal.index_mut-requires-2
index_mut-requires-2 c =
    let t = there-first c.self.inside.circuit c.self.inside.heads.items c.args.self.now c.in-Some.slot c.wires_of-first.result.0 c.args.gate c.index.result.now c.self.invariant c.facts.ensures.fine c.self.view_is c.requires.first c.wires_of-first.ensures.first c.index.ensures c.in-Some.is in
    omega (arith, t.second_below, c.wires_of-first.ensures.second, c.self.invariant.long, c.self.inside.heads.ok)

pub remove_at-requires : goal.remove_at-requires
remove_at-requires c = record { live = (there-first c.self.inside.circuit c.self.inside.heads.items c.args.self.now c.in-Some.slot c.wires_of-first.result.0 c.args.gate c.index.result.now c.self.invariant c.facts.ensures.fine c.self.view_is c.requires.first c.wires_of-first.ensures.first c.index.ensures c.in-Some.is).live }

pub invariant_of-self : goal.invariant_of-self
invariant_of-self c =
    let t = there-first c.self.inside.circuit c.self.inside.heads.items c.args.self.now c.in-Some.slot c.wires_of-first.result.0 c.args.gate c.index.result.now c.self.invariant c.facts.ensures.fine c.self.view_is c.requires.first c.wires_of-first.ensures.first c.index.ensures c.in-Some.is in
    let e = c.remove_at.ensures in
    heads-taken c.self.inside.circuit c.remove_at.new.self c.self.inside.heads.items _ c.wires_of-first.result.0 c.wires_of-first.result.1 c.args.gate c.next_on.result c.next_on-2.result
    c.wires_of-first.ensures.first c.wires_of-first.ensures.second c.self.invariant t.first (record { wires = e.wires; gates = e.gates; earlier = e.earlier; later = e.later })
    c.next_on.ensures.found c.next_on-2.ensures.found

pub returns-clause-place : goal.returns-clause-place
returns-clause-place c =
    let t = there-first c.self.inside.circuit c.self.inside.heads.items c.args.self.now c.in-Some.slot c.wires_of-first.result.0 c.args.gate c.index.result.now c.self.invariant c.facts.ensures.fine c.self.view_is c.requires.first c.wires_of-first.ensures.first c.index.ensures c.in-Some.is in
    subst (λ (gs : List Gate). IsFirstGate gs c.place-place.result c.args.gate) c.self.view_is
    (subst (λ (i : ℕ). IsFirstGate c.self.inside.circuit.gates i c.args.gate) (sym c.place-place.ensures.value) t.first)
