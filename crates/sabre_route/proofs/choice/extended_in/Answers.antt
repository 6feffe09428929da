use Rattle.std.proofs.Common.{ℕ, List, Option, length, subst, sym, take}
use Rattle.sabre_route.specs.Ahead.{IsLookoutOver, Outlook}
use Rattle.sabre_route.specs.Looking.{IsLayer, IsWrittenSet}
use Rattle.sabre_route.proofs.SeenLaws.{seen-along, seen-front, seen-ordered}
use Rattle.sabre_route.proofs.choice.extended_in.Goals as goal

pub extended_qubits-requires-in-Some-clause-layer : goal.extended_qubits-requires-in-Some-clause-layer
extended_qubits-requires-in-Some-clause-layer c =
    let q = c.args.state.now.placement in
    let gs = c.args.state.now.rest in
    let w = c.requires.seen in
    subst (λ (p : List ℕ). IsLayer c.in-Some.lookout p c.args.layer.now) (sym c.placement.ensures.value)
    (seen-front c.args.device.now.edges q w.0 c.in-Some.lookout (length q) gs c.args.layer.now (subst (λ (o : Option Outlook). IsLookoutOver w.0 o (length q) gs) c.in-Some.is w.1) c.requires.stuck c.requires.layer)

pub returns-in-None-clause-set : goal.returns-in-None-clause-set
returns-in-None-clause-set c = λ ahead h.
    let q = c.args.state.now.placement in
    let gs = c.args.state.now.rest in
    seen-ordered ahead (length q) q gs _ (subst (λ (o : Option Outlook). IsLookoutOver ahead o (length q) gs) c.in-None.is h) c.requires.fine c.extended_qubits.ensures.qubits

pub returns-in-Some-clause-set : goal.returns-in-Some-clause-set
returns-in-Some-clause-set c = λ ahead h.
    let xs = take c.extended_qubits-in-Some.result c.extended_qubits-in-Some.new.into in
    let q = c.args.state.now.placement in
    let gs = c.args.state.now.rest in
    seen-along c.args.device.now.edges q ahead c.in-Some.lookout (length q) gs c.args.layer.now xs (subst (λ (o : Option Outlook). IsLookoutOver ahead o (length q) gs) c.in-Some.is h) c.requires.stuck c.requires.layer
    (subst (λ (p : List ℕ). IsWrittenSet c.in-Some.lookout p c.args.layer.now xs) c.placement.ensures.value c.extended_qubits-in-Some.ensures.set)
