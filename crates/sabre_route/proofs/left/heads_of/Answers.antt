use Rattle.std.proofs.Common.{◌-◌, arith}
use Rattle.sabre_route.proofs.LeftLaws.{heads-put}
use Rattle.sabre_route.proofs.left.heads_of.Goals as goal

pub gates-preserved : goal.gates-preserved
gates-preserved c =
    heads-put c.args.circuit.now c.gates.heads.items (c.gates.place - 1) c.gates.place c.wires_of-first.result.0 c.wires_of-first.result.1 c.gate_at.result c.slot-slot.result
    (omega arith) c.wires_of-first.ensures.first c.wires_of-first.ensures.second c.gates.invariant c.gate_at.ensures.there c.slot-slot.ensures.place
