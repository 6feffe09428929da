-- The layers of the settled circuit, with spare wires behind its own.
use Rattle.std.proofs.Common.{◌+◌, ◌∙◌, ap, refl, subst}
use Rattle.spare_layers.specs.SparedLayers.{IsSparedCircuit}
use Rattle.unitary_model.specs.Placement.{identity}
use Rattle.circuit_target.specs.Targets.{IsOptimised}
use Rattle.qroute_top.proofs.SparedLaws.{IsSparedTarget-made}
use Rattle.qroute_top.proofs.spared.on_spares.Goals as goal

pub returns-clause-stands : goal.returns-clause-stands
returns-clause-stands c =
    let s = c.args.source.now in
    let m = c.args.spares in
    let p = c.in_ok-passed.field-0.passed in
    let made = c.in_ok-made.made in
    let laws = c.spared_circuit.ensures in
    let o : IsOptimised s.wires s.ops p = rw (c.ops.ensures.wires, c.ops.ensures.list) at c.in_ok-passed.ensures.optimised in
    let layers = subst (λ n. IsSparedCircuit n m p.body.gates made.body.gates made.turn) o.wires c.in_ok-made.ensures.layers in
    let wires = c.in_ok-made.ensures.wires ∙ ap (λ n. n + m) o.wires in
    let own = c.in_ok-own.ensures.identity ∙ ap identity c.wires.ensures.wires in
    IsSparedTarget-made c.fine_plain.ensures.plain c.spared_chain.ensures.chain laws.entries laws.fine laws.t_gates s m _ p made.turn o layers wires c.turn_sum.ensures.sum
    (c.in_ok-initial.ensures.ok ∙ own) own refl refl refl refl c.new.ensures.items c.new-2.ensures.items
